-- What the reader of an engine that is up holds gives no answer.
use Rattle.std.proofs.Common.{◌≡◌, ℕ, Bool, true, false, List, [], ◌++◌, length, take, Option, Some, None}
use Rattle.std.proofs.Common.{refl, sym, ◌∙◌, ap, subst, arith, take_all}
use Rattle.std.specs.Prelude.{Result, Ok, Err}
use Rattle.gtp_wire.specs.declared.replies.Reply.{Reply}
use Rattle.gtp_wire.specs.declared.replies.ReplyFault.{ReplyFault}
use Rattle.gtp_wire.specs.Replies.{GivesAnswer, GivesNoAnswer, ReadsFirst}
use Rattle.gtp_check_judge.specs.declared.asking.CheckCommand.{CheckCommand}
use Rattle.gtp_check_judge.specs.declared.judging.Judgement.{Judgement}
use Rattle.gtp_check_judge.specs.declared.judging.Judgement.TheVariants.{Right, Plays, Resized, Undone, Opines, Wrong}
use Rattle.gtp_check_judge.specs.declared.unanswered.Asked.{Asked}
use Rattle.gtp_check_judge.specs.declared.exam.Exam.{Exam}
use Rattle.gtp_check_judge.specs.declared.exam.Finding.{Finding}
use Rattle.gtp_check_judge.specs.Judging.{oldest, has_id}
use Rattle.gtp_check_judge.specs.Exam.{Asks, Hears, Leaves, ReplyLeaves, IdLeaves, after_judged, with_learned, hearing, reply_to}
use Rattle.gtp_check_judge.specs.Exam.{with_rest}
use Rattle.gtp_check_judge.proofs.engines.Rightly.{nothing_given, none_taken}

pub nothing_held : GivesNoAnswer []
nothing_held n answer inside given =
    nothing_given answer (subst (λ (t : List ℕ). GivesAnswer t answer) (none_taken n) given)

-- a reply leaves what the reader holds
judged_reader : (exam : Exam) (got : Judgement) → (after_judged exam got).reader ≡ exam.reader
judged_reader exam Right = refl
judged_reader exam (Plays colour v) = refl
judged_reader exam (Resized size) = refl
judged_reader exam Undone = refl
judged_reader exam (Opines opinion) = refl
judged_reader exam (Wrong kind) = refl

id_reader : (exam : Exam) (entry : Asked) (reply : Reply) (b : Bool) (finding : Option Finding) (new : Exam)
    → IdLeaves exam (reply_to entry reply) b finding new → new.reader ≡ exam.reader
id_reader exam entry reply false finding new h = ap (λ (e : Exam). e.reader) h.1
id_reader exam entry reply true finding new h =
    ap (λ (e : Exam). e.reader) h.3 ∙ judged_reader (with_learned exam entry.command reply) h.0

reply_reader : (exam : Exam) (o : Option Asked) (reply : Reply) (finding : Option Finding) (new : Exam)
    → ReplyLeaves exam o reply finding new → new.reader ≡ exam.reader
reply_reader exam None reply finding new h = ap (λ (e : Exam). e.reader) h.1
reply_reader exam (Some entry) reply finding new h =
    id_reader exam entry reply (has_id reply.id entry.id) finding new h

taken_all : (bytes : List ℕ) → take (length bytes) bytes ≡ bytes
taken_all bytes = take_all (length bytes) bytes (omega arith)

leaves_quiet : (old : Exam) (bytes : List ℕ) (used : ℕ) (read : Option (Result Reply ReplyFault)) (rest : List ℕ)
    (finding : Option Finding) (new : Exam) → ReadsFirst old.reader bytes used read rest
    → Leaves (with_rest old rest) read finding new → new.up ≡ true → GivesNoAnswer new.reader
leaves_quiet old bytes used None rest finding new reads h up =
    let held : new.reader ≡ old.reader ++ bytes =
    ap (λ (e : Exam). e.reader) h.1 ∙ reads.rest
    ∙ ap (λ (n : ℕ). old.reader ++ take n bytes) reads.all ∙ ap (λ (t : List ℕ). old.reader ++ t) (taken_all bytes) in
    subst GivesNoAnswer (sym held) reads.nothing
leaves_quiet old bytes used (Some (Err shown)) rest finding new reads h up =
    absurd (let e : true ≡ false = sym up ∙ ap (λ (e : Exam). e.up) h.1 in cc e)
leaves_quiet old bytes used (Some (Ok reply)) rest finding new reads h up =
    subst GivesNoAnswer
    (sym (reply_reader (with_rest old rest) (oldest old.unanswered) reply finding new h ∙ reads.rest)) nothing_held

pub heard_quiet : (old : Exam) (bytes : List ℕ) (used : ℕ) (read : Option (Result Reply ReplyFault))
    (finding : Option Finding) (new : Exam) → Hears old bytes (hearing used read finding) new → new.up ≡ true
    → GivesNoAnswer new.reader
heard_quiet old bytes used read finding new h up = leaves_quiet old bytes used read h.0 finding new h.1 h.2 up

pub asked_quiet : (old : Exam) (command : CheckCommand) (new : Exam) → (old.up ≡ true → GivesNoAnswer old.reader)
    → Asks old command new → new.up ≡ true → GivesNoAnswer new.reader
asked_quiet old command new quiet a =
    subst (λ (e : Exam). e.up ≡ true → GivesNoAnswer e.reader) (sym a.new_is) quiet
