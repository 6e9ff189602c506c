-- Each turn of a trial gets on, so it ends.
use Rattle.std.proofs.Common.{◌≡◌, ◌∙◌, ◌+◌, ◌-◌, ◌*◌, ◌<◌, ◌≤◌, ◌⊎◌, ap, refl, subst, sym, arith, inl, inr, min, ℕ}
use Rattle.std.proofs.Common.{Bool, true, false}
use Rattle.std.proofs.Common.{List, [], ◌∷◌, ◌++◌, length, take, drop, leb, Option, None, Some, Result, Ok, Err}
use Rattle.std.proofs.lemmas.Bool.{leb-false, leb-true}
use Rattle.std.proofs.lemmas.List.{length-append, length-drop, length-take, length-take-le}
use Rattle.gtp_wire.specs.declared.replies.Reply.{Reply}
use Rattle.gtp_wire.specs.declared.replies.ReplyFault.{ReplyFault}
use Rattle.gtp_wire.specs.declared.replies.ReplyFault.TheVariants.{Overlong}
use Rattle.gtp_wire.specs.Replies.{GivesNoAnswer, ReadsFirst}
use Rattle.gtp_process.specs.declared.starter.Process.{Ghosts}
use Rattle.gtp_check_judge.specs.declared.asking.CheckCommand.{CheckCommand}
use Rattle.gtp_check_judge.specs.declared.exam.Exam.{Exam}
use Rattle.gtp_check_judge.specs.declared.judging.Judgement.{Judgement}
use Rattle.gtp_check_judge.specs.declared.judging.Judgement.TheVariants.{Right, Plays, Resized, Undone, Opines, Wrong}
use Rattle.gtp_check_judge.specs.declared.unanswered.Asked.{Asked}
use Rattle.gtp_check_judge.specs.Judging.{oldest, has_id}
use Rattle.gtp_check_judge.specs.Exam.{IdLeaves, Leaves, ReplyLeaves, after_judged, finding_of, with_learned, with_rest, reply_to}
use Rattle.gtp_check_talk.specs.Dialogues.{AreHeard, Dialogue, IsExchanged, IsRead, Trial}
use Rattle.gtp_check_talk.specs.private.Asking.{AreAsked}
use Rattle.gtp_check_talk.proofs.Asked.{IsAskedMore, asked_exam, asked_none}

-- ---- what was heard

-- an engine that is up is up still, and one command less is unanswered
record IsAnswered (old new : Exam) : Type 0 where
  up : new.up ≡ true
  less : length new.unanswered + 1 ≡ length old.unanswered

-- the same, or more of a reply is read, which has an end
record GetsOn (old new : Exam) : Type 0 where
  up : new.up ≡ true
  less : (length new.unanswered + 1 ≡ length old.unanswered)
      ⊎ ((length new.unanswered ≡ length old.unanswered) × (length old.reader < length new.reader)
      × (length new.reader ≤ 8192))

-- the oldest command was taken off
one_less : (list : List Asked) → 0 < length list → length (drop 1 list) + 1 ≡ length list
one_less list some = omega (arith, length-drop 1 list)

judged : (exam : Exam) (entry : Asked) (got : Judgement) → exam.up ≡ true → 0 < length exam.unanswered
    → finding_of entry got ≡ None → IsAnswered exam (after_judged exam got)
judged exam entry Right up some none = record { up = up; less = one_less exam.unanswered some }
judged exam entry (Plays colour v) up some none = record { up = up; less = one_less exam.unanswered some }
judged exam entry (Resized size) up some none = record { up = up; less = one_less exam.unanswered some }
judged exam entry Undone up some none = record { up = up; less = one_less exam.unanswered some }
judged exam entry (Opines opinion) up some none = record { up = up; less = one_less exam.unanswered some }
judged exam entry (Wrong kind) up some none = absurd (cc none)

by_id : (exam : Exam) (entry : Asked) (reply : Reply) (same : Bool) (new : Exam) → exam.up ≡ true
    → 0 < length exam.unanswered → IdLeaves exam (reply_to entry reply) same None new → IsAnswered exam new
by_id exam entry reply false new up some h = absurd (cc (h.0))
by_id exam entry reply true new up some h =
    let is = judged (with_learned exam entry.command reply) entry h.0 up some (sym h.2) in
    subst (IsAnswered exam) (sym h.3) (record { up = is.up; less = is.less })

by_reply : (exam : Exam) (entry : Option Asked) (reply : Reply) (new : Exam) → exam.up ≡ true
    → 0 < length exam.unanswered → ReplyLeaves exam entry reply None new → IsAnswered exam new
by_reply exam None reply new up some h = absurd (cc (h.0))
by_reply exam (Some entry) reply new up some h = by_id exam entry reply (has_id reply.id entry.id) new up some h

-- a text with neither a reply nor a fault has 8,192 bytes at most
few_bytes : (text : List ℕ) → GivesNoAnswer text → length text ≤ 8192
few_bytes text none = by (leb (length text) 8192) refl
  where
    by : (few : Bool) → leb (length text) 8192 ≡ few → length text ≤ 8192
    by true is = leb-true (length text) 8192 is
    by false is =
        let many : 8193 ≤ length text = omega (arith, leb-false (length text) 8192 is) in
        absurd (none 8193 (Err Overlong) many (length-take-le 8193 text many))

by_read : (bytes : List ℕ) (old : Exam) (used : ℕ) (read : Option (Result Reply ReplyFault)) (rest : List ℕ)
    (new : Exam) → old.up ≡ true → 0 < length bytes → 0 < length old.unanswered
    → ReadsFirst old.reader bytes used read rest → Leaves (with_rest old rest) read None new → GetsOn old new
by_read bytes old used None rest new up some owes reads h =
    let is = h.1 in
    let all : length rest ≡ length old.reader + length bytes =
    ap (λ (text : List ℕ). length text) reads.rest
    ∙ ap (λ (n : ℕ). length (old.reader ++ take n bytes)) reads.all
    ∙ omega (arith, length-append old.reader (take (length bytes) bytes), length-take (length bytes) bytes) in
    let few = few_bytes (old.reader ++ bytes) reads.nothing in
    record {
      up = ap (λ (exam : Exam). exam.up) is ∙ up;
      less = inr (
        ap (λ (exam : Exam). length exam.unanswered) is,
        omega (arith, ap (λ (exam : Exam). length exam.reader) is, all),
        omega (arith, ap (λ (exam : Exam). length exam.reader) is, all, few, length-append old.reader bytes),
      );
    }
by_read bytes old used (Some (Err shown)) rest new up some owes reads h = absurd (cc (h.0))
by_read bytes old used (Some (Ok reply)) rest new up some owes reads h =
    let is = by_reply (with_rest old rest) (oldest old.unanswered) reply new up owes h in
    record { up = is.up; less = inl is.less }

module _ {P : Type 0} (known : Ghosts P) where
  quiet_on : (bytes : List ℕ) (before : Dialogue P) (after : Dialogue P) → before.exam.up ≡ true
      → 0 < length bytes → 0 < length before.exam.unanswered → AreHeard bytes before None after
      → GetsOn before.exam after.exam
  quiet_on bytes before after up some owes heard =
      let hears = heard.heard.up up in
      by_read bytes before.exam heard.used heard.read hears.0 after.exam up some owes hears.1 hears.2

  read_on : (before : Dialogue P) (after : Dialogue P) → before.exam.up ≡ true
      → 0 < length before.exam.unanswered → IsRead known before None after → GetsOn before.exam after.exam
  read_on before after up owes (IsRead.gives bytes next some gave unbroken taken heard) =
      quiet_on bytes (record before { process = next }) after up some owes heard

  -- an engine that owes an answer was heard
  exchanged_on : (before : Dialogue P) (after : Dialogue P) → before.exam.up ≡ true
      → 0 < length before.exam.unanswered → IsExchanged known before None after → GetsOn before.exam after.exam
  exchanged_on before after up owes (IsExchanged.owes_nothing next none sent) = absurd (omega arith)
  exchanged_on before after up owes (IsExchanged.held some more heard) =
      quiet_on before.held (record before { held = [] }) after up more owes heard
  exchanged_on before after up owes (IsExchanged.reads next some none sent read) =
      read_on (record before { process = next; waiting = [] }) after up owes read

  -- one that owes none was sent what waits
  exchanged_out : (before : Dialogue P) (after : Dialogue P)
      → length before.exam.unanswered ≡ 0 → IsExchanged known before None after
      → (after.exam ≡ before.exam) × (after.waiting ≡ [])
  exchanged_out before after owes (IsExchanged.owes_nothing next none sent) = (refl, refl)
  exchanged_out before after owes (IsExchanged.held some more heard) = absurd (omega arith)
  exchanged_out before after owes (IsExchanged.reads next some none sent read) = absurd (omega arith)

-- ---- what is left

-- What is left of a trial: the commands that aren't answered, for each of them the bytes of a reply, and whether lines
-- wait to be sent.
abbrev pub left : ℕ → Exam → List ℕ → ℕ
left rest exam waiting =
    ((rest + length exam.unanswered) * 8194 + (8193 - length exam.reader)) * 2 + min 1 (length waiting)

module _ (rest count later : ℕ) (first old new : Exam) (waits had waiting : List ℕ) where
  -- after commands were asked, and the engine was heard, less is left
  less_left : later + count ≡ rest → IsAskedMore count first old → GetsOn old new
      → left later new waiting < left rest first waits
  less_left is asked on =
      let reader : length old.reader ≡ length first.reader = ap (λ (text : List ℕ). length text) asked.reader in
      elim on.less as (λ _. left later new waiting < left rest first waits) [
        | inl answered ↦ omega (arith, reader, asked.more, answered)
        | inr more ↦ omega (arith, reader, asked.more, more.0, more.1, more.2)
      ]

  -- and where it owed nothing, and was sent what waited
  less_sent : later + count ≡ rest → IsAskedMore count first old → length old.unanswered ≡ 0 → new ≡ old
      → waiting ≡ [] → 0 < length had → (count ≡ 0 → had ≡ waits) → left later new waiting < left rest first waits
  less_sent is asked none same sent some kept =
      let nothing : count ≡ 0 = omega (arith, asked.more) in
      let waited : length had ≡ length waits = ap (λ (lines : List ℕ). length lines) (kept nothing) in
      let empty : length waiting ≡ 0 = ap (λ (lines : List ℕ). length lines) sent in
      let owes : length new.unanswered ≡ length old.unanswered =
      ap (λ (exam : Exam). length exam.unanswered) same in
      let reads : length new.reader ≡ length first.reader =
      ap (λ (exam : Exam). length exam.reader) same ∙ ap (λ (text : List ℕ). length text) asked.reader in
      omega (arith, asked.more)

-- ---- a turn

-- what becomes of a trial in a turn: the engine is up, and less is left
pub record TurnsOn {P : Type 0} (rest later : ℕ) (first after : Dialogue P) : Type 0 where
  pub up : after.exam.up ≡ true
  pub less : left later after.exam after.waiting < left rest first.exam first.waiting

-- Commands were asked, and the engine owed something: an answer, or it had not been sent all. Then it was heard, and
-- nothing was wrong.
pub turned : {P : Type 0} (known : Ghosts P) (tries : Trial) (first old : Dialogue P) (commands : List CheckCommand)
    (rest later : ℕ) (after : Dialogue P) → later + length commands ≡ rest → first.exam.up ≡ true
    → AreAsked tries first commands old → (0 < length old.waiting) ⊎ (0 < length old.exam.unanswered)
    → IsExchanged known old None after → TurnsOn rest later first after
turned known tries first old commands rest later after is up asks owes exchanged =
    by old.exam.unanswered refl
  where
    asked : IsAskedMore (length commands) first.exam old.exam
    asked = asked_exam tries first old asks

    by : (list : List Asked) → old.exam.unanswered ≡ list → TurnsOn rest later first after
    by [] none =
        let nothing : length old.exam.unanswered ≡ 0 = ap (λ (list : List Asked). length list) none in
        let out = exchanged_out known old after nothing exchanged in
        let some : 0 < length old.waiting =
        elim owes as (λ _. 0 < length old.waiting) [
          | inl waits ↦ waits
          | inr more ↦ absurd (omega (arith, more, nothing))
        ] in
        record {
          up = ap (λ (exam : Exam). exam.up) out.0 ∙ asked.up ∙ up;
          less = less_sent rest (length commands) later first.exam old.exam after.exam first.waiting old.waiting
              after.waiting is asked nothing out.0 out.1 some (asked_none tries first old asks);
        }
    by (one ∷ more) are =
        let some : 0 < length old.exam.unanswered =
        omega (arith, ap (λ (list : List Asked). length list) are) in
        let on = exchanged_on known old after (asked.up ∙ up) some exchanged in
        record {
          up = on.up;
          less = less_left rest (length commands) later first.exam old.exam after.exam first.waiting old.waiting
              after.waiting is asked on;
        }
