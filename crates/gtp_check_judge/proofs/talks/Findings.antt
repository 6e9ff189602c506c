-- Why a finding is justified.
use Rattle.std.proofs.Common.{◌≡◌, ℕ, Bool, true, false, List, [], ◌∷◌, Option, Some, None, refl}
use Rattle.std.proofs.Common.{sym, ◌∙◌, ap, subst}
use Rattle.std.specs.Prelude.{IfSome, Result, Ok, Err}
use Rattle.go_board.specs.declared.rules.KoRule.{KoRule}
use Rattle.gtp_wire.specs.declared.replies.Reply.{Reply}
use Rattle.gtp_wire.specs.declared.replies.ReplyFault.{ReplyFault}
use Rattle.gtp_wire.specs.declared.replies.ReplyFault.TheVariants as fault
use Rattle.gtp_check_judge.specs.declared.judging.Judgement.{Judgement}
use Rattle.gtp_check_judge.specs.declared.judging.Judgement.TheVariants.{Right, Plays, Resized, Undone, Opines, Wrong}
use Rattle.gtp_check_judge.specs.declared.judging.Kind.{Kind}
use Rattle.gtp_check_judge.specs.declared.judging.Kind.TheVariants.{WrongId, Unasked}
use Rattle.gtp_check_judge.specs.declared.unanswered.Asked.{Asked}
use Rattle.gtp_check_judge.specs.declared.exam.Exam.{Exam}
use Rattle.gtp_check_judge.specs.declared.exam.Finding.{Finding}
use Rattle.gtp_check_judge.specs.RightEngine.{RightEngine, fresh_engine}
use Rattle.gtp_check_judge.specs.Judging.{oldest, has_id}
use Rattle.gtp_check_judge.specs.Exam.{Hears, Leaves, ReplyLeaves, IdLeaves, finding_of, hearing, reply_to}
use Rattle.gtp_check_judge.specs.Exam.{engine_of, kind_of, with_rest, AreOrderly}
use Rattle.gtp_check_judge.specs.Laws.{IsRight, Exchange, AllRight, Talks, IsAsked, Expects}
use Rattle.gtp_check_judge.specs.Laws.{IsRightSoFar, NoRightAnswer, FaultIsNamed, GivesKind, IsJustified}
use Rattle.gtp_check_judge.proofs.answers.Statuses.{HoldsOf}
use Rattle.gtp_check_judge.proofs.talks.Silence.{holds, id_has, id_is, oldest_asked, right_so_far}

no_fault_right : (before : RightEngine) (o : Option Asked) (shown : ReplyFault)
    → NoRightAnswer before o (Some (Err shown))
no_fault_right before None shown = tt
no_fault_right before (Some entry) shown = tt

fault_named : (shown : ReplyFault) → FaultIsNamed shown (kind_of shown)
fault_named fault.NoStatus = refl
fault_named fault.Overlong = refl

fault_kind : (before : RightEngine) (o : Option Asked) (shown : ReplyFault)
    → GivesKind before o (Some (Err shown)) (kind_of shown)
fault_kind before None shown = fault_named shown
fault_kind before (Some entry) shown = fault_named shown

justified_of : (rule : KoRule) (said : List Exchange) (exam : Exam) (read : Option (Result Reply ReplyFault))
    (finding : Finding) (asked : Option Asked) (kind : Kind) → (s : IsRightSoFar rule said exam)
    → Some finding ≡ Some (record { asked = asked; kind = kind })
    → asked ≡ oldest exam.unanswered → NoRightAnswer s.before asked read → GivesKind s.before asked read kind
    → IsJustified rule said exam read finding
justified_of rule said exam read finding asked kind s is oldest_is wrong true_kind =
    let same : finding ≡ record { asked = asked; kind = kind } = cc is in
    let names : finding.asked ≡ asked = ap (λ (f : Finding). f.asked) same in
    record {
      before = s.before;
      right = s.right;
      names = names ∙ oldest_is;
      due =
          subst (λ (o : Option Asked). IfSome o (IsAsked s.before)) (sym (names ∙ oldest_is))
          (oldest_asked s.before exam.unanswered (engine_of exam) s.expects);
      wrong = subst (λ (o : Option Asked). NoRightAnswer s.before o read) (sym names) wrong;
      kind =
          subst (λ (f : Finding). GivesKind s.before f.asked read f.kind) (sym same) true_kind;
    }

found_by : (entry : Asked) (got : Judgement) (finding : Finding) → Some finding ≡ finding_of entry got
    → (kind : Kind) × (got ≡ Wrong kind) × (Some finding ≡ Some (record { asked = Some entry; kind = kind }))
found_by entry Right finding e = absurd (cc e)
found_by entry (Plays colour v) finding e = absurd (cc e)
found_by entry (Resized size) finding e = absurd (cc e)
found_by entry Undone finding e = absurd (cc e)
found_by entry (Opines opinion) finding e = absurd (cc e)
found_by entry (Wrong kind) finding e = (kind, refl, e)

-- a right answer has the id
right_id : (before : RightEngine) (entry : Asked) (reply : Reply) (after : RightEngine)
    → IsRight before entry reply after
    → reply.id ≡ Some entry.id
right_id before entry reply after (IsRight.by_table right) = right.id
right_id before entry reply after (IsRight.by_refusal right) = right.id

id_justified : (rule : KoRule) (said : List Exchange) (exam : Exam) (entry : Asked) (later : List Asked) (reply : Reply)
    (b : Bool) (finding : Finding) (new : Exam) → IsRightSoFar rule said exam
    → exam.unanswered ≡ entry ∷ later → has_id reply.id entry.id ≡ b
    → IdLeaves exam (reply_to entry reply) b (Some finding) new
    → IsJustified rule said exam (Some (Ok reply)) finding
id_justified rule said exam entry later reply false finding new s list id h =
    justified_of rule said exam (Some (Ok reply)) finding (Some entry) WrongId s h.0 (sym (ap oldest list))
    (λ after right. other_id (right_id s.before entry reply after right)) (other_id, λ isnt. absurd (isnt refl))
  where
    other_id : reply.id ≡ Some entry.id → ⊥
    other_id is = let e : true ≡ false = sym (id_has reply.id entry.id is) ∙ id in cc e
id_justified rule said exam entry later reply true finding new s list id h =
    let found = found_by entry h.0 finding h.2 in
    let held : HoldsOf s.before entry reply (Wrong found.0) =
    subst (HoldsOf s.before entry reply) found.1
    (holds s.before (engine_of exam) exam.sent entry later reply h.0 s.size
    (subst (λ (l : List Asked). AreOrderly exam.game exam.sent l) list s.orderly)
    (subst (λ (l : List Asked). Expects s.before l (engine_of exam)) list s.expects) id h.1) in
    justified_of rule said exam (Some (Ok reply)) finding (Some entry) found.0 s found.2 (sym (ap oldest list))
    held.0 (held.1, λ isnt. id_is reply.id entry.id id)

reply_justified : (rule : KoRule) (said : List Exchange) (exam : Exam) (list : List Asked) (reply : Reply)
    (finding : Finding) (new : Exam) → IsRightSoFar rule said exam → exam.unanswered ≡ list
    → ReplyLeaves exam (oldest list) reply (Some finding) new
    → IsJustified rule said exam (Some (Ok reply)) finding
reply_justified rule said exam [] reply finding new s list h =
    justified_of rule said exam (Some (Ok reply)) finding None Unasked s h.0 (sym (ap oldest list)) tt refl
reply_justified rule said exam (entry ∷ later) reply finding new s list h =
    id_justified rule said exam entry later reply (has_id reply.id entry.id) finding new s list refl h

leaves_justified : (rule : KoRule) (said : List Exchange) (exam : Exam) (read : Option (Result Reply ReplyFault))
    (finding : Finding) (new : Exam) → IsRightSoFar rule said exam → Leaves exam read (Some finding) new
    → IsJustified rule said exam read finding
leaves_justified rule said exam None finding new s h = absurd (cc (h.0))
leaves_justified rule said exam (Some (Err shown)) finding new s h =
    justified_of rule said exam (Some (Err shown)) finding (oldest exam.unanswered) (kind_of shown) s h.0 refl
    (no_fault_right s.before (oldest exam.unanswered) shown) (fault_kind s.before (oldest exam.unanswered) shown)
leaves_justified rule said exam (Some (Ok reply)) finding new s h =
    reply_justified rule said exam exam.unanswered reply finding new s refl h

pub justified : (rule : KoRule) (sent came : List ℕ) (said : List Exchange) (old new : Exam) (bytes : List ℕ)
    (used : ℕ) (read : Option (Result Reply ReplyFault)) (finding : Finding)
    → Talks rule sent came said old → Hears old bytes (hearing used read (Some finding)) new
    → IsJustified rule said old read finding
justified rule sent came said old new bytes used read finding talk h =
    let s : IsRightSoFar rule said old = right_so_far rule sent came said old talk in
    let j : IsJustified rule said (with_rest old h.0) read finding =
    leaves_justified rule said (with_rest old h.0) read finding new
    (record { before = s.before; right = s.right; expects = s.expects; size = s.size; orderly = s.orderly }) h.2 in
    record { before = j.before; right = j.right; names = j.names; due = j.due; wrong = j.wrong; kind = j.kind }

-- ---- right answers

pub unblamed : (rule : KoRule) (sent came : List ℕ) (said : List Exchange) (old new : Exam)
    (bytes : List ℕ) (used : ℕ) (reply : Reply) (finding : Option Finding) (entry : Asked)
    → Talks rule sent came said old → Hears old bytes (hearing used (Some (Ok reply)) finding) new
    → oldest old.unanswered ≡ Some entry
    → ((before : RightEngine) → AllRight (fresh_engine rule) said before
    → (after : RightEngine) × IsRight before entry reply after)
    → finding ≡ None
unblamed rule sent came said old new bytes used reply None entry talk h is right = refl
unblamed rule sent came said old new bytes used reply (Some finding) entry talk h is right =
    let j : IsJustified rule said old (Some (Ok reply)) finding =
    justified rule sent came said old new bytes used (Some (Ok reply)) finding talk h in
    let one = right j.before j.right in
    absurd (subst (λ (o : Option Asked). NoRightAnswer j.before o (Some (Ok reply))) (j.names ∙ is) j.wrong one.0 one.1)
