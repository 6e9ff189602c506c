-- What is heard keeps an examiner orderly.
use Rattle.std.proofs.Common.{◌≡◌, ℕ, ◌+◌, Bool, true, false, List, [], ◌∷◌, length, Option, Some, None, refl}
use Rattle.std.proofs.Common.{sym, ap, subst, arith}
use Rattle.std.specs.Prelude.{ℤ, IfSome, Result, Ok, Err, drop, if◌then◌else◌}
use Rattle.go_base.specs.declared.colours.Colour.{Colour}
use Rattle.go_base.specs.declared.vertices.Vertex.{Vertex}
use Rattle.go_board.specs.Game.{GameRecord, IsLegal, with_move, without_last}
use Rattle.gtp_wire.specs.declared.commands.Command.TheVariants.{Boardsize}
use Rattle.gtp_wire.specs.declared.replies.Reply.{Reply}
use Rattle.gtp_wire.specs.declared.replies.ReplyFault.{ReplyFault}
use Rattle.go_base.specs.declared.choices.Choice.{Choice}
use Rattle.gtp_session.specs.CommandAnswers.{after_command}
use Rattle.gtp_wire.specs.ReplyWords.{choice_of_text}
use Rattle.gtp_check_judge.specs.Scores.{score_of_text}
use Rattle.gtp_check_judge.specs.declared.dues.Due.{Due}
use Rattle.gtp_check_judge.specs.declared.dues.Due.TheVariants.{Succeeds, Fails, Places, Resizes, Scores, AnyReply}
use Rattle.gtp_check_judge.specs.declared.dues.Due.TheVariants.{Chooses, MayUndo, Lists}
use Rattle.gtp_check_judge.specs.declared.judging.Judgement.{Judgement}
use Rattle.gtp_check_judge.specs.declared.judging.Judgement.TheVariants.{Right, Plays, Resized, Undone, Opines, Wrong}
use Rattle.gtp_check_judge.specs.declared.judging.Kind.TheVariants.{OtherScore}
use Rattle.gtp_check_judge.specs.declared.opinions.Opinion.{Opinion}
use Rattle.gtp_check_judge.specs.declared.opinions.View.{View}
use Rattle.gtp_check_judge.specs.declared.scores.SaidScore.{SaidScore}
use Rattle.gtp_check_judge.specs.Opinions.{agrees, opinion_with, view_of}
use Rattle.gtp_check_judge.specs.declared.unanswered.Asked.{Asked}
use Rattle.gtp_check_judge.specs.declared.exam.Exam.{Exam}
use Rattle.gtp_check_judge.specs.declared.exam.Finding.{Finding}
use Rattle.gtp_check_judge.specs.Judging.{oldest, awaits, is_open, has_id, Judged, success_judged, failure_judged}
use Rattle.gtp_check_judge.specs.Judging.{size_judged, undo_judged, points_judged, ChoiceJudged, view_judged}
use Rattle.gtp_check_judge.specs.Judging.{score_judged, list_judged}
use Rattle.gtp_check_judge.specs.Exam.{Hears, Leaves, ReplyLeaves, IdLeaves, after_judged, with_learned, with_rest, hearing, reply_to}
use Rattle.gtp_check_judge.specs.Exam.{MayApply, MayBeTaken, MayReply, MayAllBeTaken, AreOrderly, IsOrderly}
use Rattle.go_base.specs.declared.choices.Choice.TheVariants as choice
use Rattle.gtp_check_judge.proofs.order.Asked.{or_true}

pub may_reply : (exam : Exam) → IsOrderly exam → MayReply exam
may_reply exam o = first exam.unanswered o.judged
  where
    first : (list : List Asked) → MayAllBeTaken exam.game list
        → IfSome (oldest list) (λ asked. MayBeTaken exam.game asked.due)
    first [] all = tt
    first (asked ∷ later) all = all.0

right_parts : (game : GameRecord) (sent : ℕ) (asked : Asked) (later : List Asked)
    → AreOrderly game sent (asked ∷ later) → AreOrderly game sent later
right_parts game sent asked later o = record {
  few = omega (arith, o.few);
  alone = λ e. rest later e (o.alone (or_true (is_open asked.due) (awaits later) e));
  ints = o.ints;
  answered = o.answered + 1;
  count = omega (arith, o.count);
  numbered = o.numbered.1;
  judged = o.judged.1;
}
  where
    rest : (list : List Asked) → awaits list ≡ true → length (asked ∷ list) ≡ 1 → length list ≡ 1
    rest [] e one = absurd (cc e)
    rest (x ∷ xs) e one = absurd (omega arith)

-- what is awaited is alone, so after its answer nothing is unanswered, whatever the game
played_parts : (game new : GameRecord) (sent : ℕ) (asked : Asked) (later : List Asked)
    → is_open asked.due ≡ true
    → AreOrderly game sent (asked ∷ later) → AreOrderly new sent later
played_parts game new sent asked [] is o = record {
  few = omega arith;
  alone = λ e. absurd (cc e);
  ints = o.ints;
  answered = sent;
  count = omega arith;
  numbered = tt;
  judged = tt;
}
played_parts game new sent asked (x ∷ xs) is o =
    absurd (let e = o.alone (rw is refl) in omega arith)

-- what a score is judged to be
abbrev OfScore : Judgement → Type 0
OfScore Right = Unit {0}
OfScore (Opines opinion) = Unit {0}
OfScore (Wrong kind) = Unit {0}
OfScore (Plays colour v) = ⊥
OfScore (Resized size) = ⊥
OfScore Undone = ⊥

of_view : (opinion : Opinion) (o : Option View) → OfScore (view_judged opinion o)
of_view opinion None = tt
of_view opinion (Some new) = by (agrees opinion new)
  where
    by : (b : Bool) → OfScore (if b then Opines (opinion_with opinion new) else Wrong OtherScore)
    by true = tt
    by false = tt

of_score : (opinion : Opinion) (size : ℕ) (komi : ℤ) (ok : Bool) (said : Option SaidScore) (got : Judgement)
    → got ≡ score_judged opinion size komi ok said → OfScore got
of_score opinion size komi ok said got j = subst OfScore (sym j) (by ok said)
  where
    by : (b : Bool) (o : Option SaidScore) → OfScore (score_judged opinion size komi b o)
    by false o = tt
    by true None = tt
    by true (Some one) = of_view opinion (view_of size komi one)

-- a move is played only by what chooses
pub plays_chosen : (game : GameRecord) (opinion : Opinion) (due : Due) (reply : Reply) (colour : Colour) (v : Vertex)
    → Judged game opinion due reply (Plays colour v) → (c : Colour) × (due ≡ Chooses c)
plays_chosen game opinion (Chooses c) reply colour v j = (c, refl)
plays_chosen game opinion Succeeds reply colour v j = absurd (never reply.ok j)
  where
    never : (b : Bool) → Plays colour v ≡ success_judged b → ⊥
    never true e = cc e
    never false e = cc e
plays_chosen game opinion (Scores s k) reply colour v j =
    absurd (of_score opinion s k reply.ok (score_of_text reply.text.items) (Plays colour v) j)
plays_chosen game opinion AnyReply reply colour v j = absurd (cc j)
plays_chosen game opinion Lists reply colour v j = absurd (never _ reply.ok j)
  where
    never : (n b : Bool) → Plays colour v ≡ list_judged n b → ⊥
    never n false e = cc e
    never true true e = cc e
    never false true e = cc e
plays_chosen game opinion MayUndo reply colour v j = absurd (never reply.ok j)
  where
    never : (b : Bool) → Plays colour v ≡ undo_judged b → ⊥
    never true e = cc e
    never false e = cc e
plays_chosen game opinion (Fails cause) reply colour v j = absurd (never reply.ok j)
  where
    never : (b : Bool) → Plays colour v ≡ failure_judged cause b → ⊥
    never true e = cc e
    never false e = cc e
plays_chosen game opinion (Resizes size) reply colour v j = absurd (never reply.ok j)
  where
    never : (b : Bool) → Plays colour v ≡ size_judged size b → ⊥
    never true e = cc e
    never false e = cc e
plays_chosen game opinion (Places size stones) reply colour v j = absurd (never _ reply.ok j)
  where
    never : (n b : Bool) → Plays colour v ≡ points_judged n b → ⊥
    never n false e = cc e
    never true true e = cc e
    never false true e = cc e

-- the move that is chosen is legal
chosen_legal : (game : GameRecord) (c : Colour) (ok : Bool) (said : Option Choice) (colour : Colour) (v : Vertex)
    → ChoiceJudged game c ok said (Plays colour v) → IsLegal game colour v
chosen_legal game c false said colour v j = absurd (cc j)
chosen_legal game c true None colour v j = absurd (cc j)
chosen_legal game c true (Some choice.Resign) colour v j = absurd (cc j)
chosen_legal game c true (Some (choice.Play w)) colour v j =
    subst (λ (d : Colour). IsLegal game d v) (sym j.0) (subst (IsLegal game c) (sym j.1) j.2)

-- and a board has another size only by what asks for that size
pub resized_due : (game : GameRecord) (opinion : Opinion) (due : Due) (reply : Reply) (size : ℕ)
    → Judged game opinion due reply (Resized size) → (due ≡ Resizes size) × (reply.ok ≡ true)
resized_due game opinion (Resizes s) reply size j = by reply.ok j
  where
    by : (b : Bool) → Resized size ≡ size_judged s b → (Resizes s ≡ Resizes size) × (b ≡ true)
    by true e = (let same : s ≡ size = cc e in ap Resizes same, refl)
    by false e = absurd (cc e)
resized_due game opinion Succeeds reply size j = absurd (never reply.ok j)
  where
    never : (b : Bool) → Resized size ≡ success_judged b → ⊥
    never true e = cc e
    never false e = cc e
resized_due game opinion (Scores s k) reply size j =
    absurd (of_score opinion s k reply.ok (score_of_text reply.text.items) (Resized size) j)
resized_due game opinion AnyReply reply size j = absurd (cc j)
resized_due game opinion Lists reply size j = absurd (never _ reply.ok j)
  where
    never : (n b : Bool) → Resized size ≡ list_judged n b → ⊥
    never n false e = cc e
    never true true e = cc e
    never false true e = cc e
resized_due game opinion MayUndo reply size j = absurd (never reply.ok j)
  where
    never : (b : Bool) → Resized size ≡ undo_judged b → ⊥
    never true e = cc e
    never false e = cc e
resized_due game opinion (Fails cause) reply size j = absurd (never reply.ok j)
  where
    never : (b : Bool) → Resized size ≡ failure_judged cause b → ⊥
    never true e = cc e
    never false e = cc e
resized_due game opinion (Places s stones) reply size j = absurd (never _ reply.ok j)
  where
    never : (n b : Bool) → Resized size ≡ points_judged n b → ⊥
    never n false e = cc e
    never true true e = cc e
    never false true e = cc e
resized_due game opinion (Chooses colour) reply size j = absurd (never reply.ok (choice_of_text reply.text.items) j)
  where
    never : (b : Bool) (said : Option Choice) → ChoiceJudged game colour b said (Resized size) → ⊥
    never false said e = cc e
    never true None e = cc e
    never true (Some choice.Resign) e = cc e
    never true (Some (choice.Play v)) e = e

-- and a move is taken back only by an `undo` that may fail
pub undone_by_undo : (game : GameRecord) (opinion : Opinion) (due : Due) (reply : Reply)
    → Judged game opinion due reply Undone → (due ≡ MayUndo) × (reply.ok ≡ true)
undone_by_undo game opinion Lists reply j = absurd (never _ reply.ok j)
  where
    never : (n b : Bool) → Undone ≡ list_judged n b → ⊥
    never n false e = cc e
    never true true e = cc e
    never false true e = cc e
undone_by_undo game opinion MayUndo reply j = by reply.ok j
  where
    by : (b : Bool) → Undone ≡ undo_judged b → (MayUndo ≡ MayUndo) × (b ≡ true)
    by true e = (refl, refl)
    by false e = absurd (cc e)
undone_by_undo game opinion Succeeds reply j = absurd (never reply.ok j)
  where
    never : (b : Bool) → Undone ≡ success_judged b → ⊥
    never true e = cc e
    never false e = cc e
undone_by_undo game opinion (Scores s k) reply j =
    absurd (of_score opinion s k reply.ok (score_of_text reply.text.items) (Undone) j)
undone_by_undo game opinion AnyReply reply j = absurd (cc j)
undone_by_undo game opinion (Fails cause) reply j = absurd (never reply.ok j)
  where
    never : (b : Bool) → Undone ≡ failure_judged cause b → ⊥
    never true e = cc e
    never false e = cc e
undone_by_undo game opinion (Resizes size) reply j = absurd (never reply.ok j)
  where
    never : (b : Bool) → Undone ≡ size_judged size b → ⊥
    never true e = cc e
    never false e = cc e
undone_by_undo game opinion (Places size stones) reply j = absurd (never _ reply.ok j)
  where
    never : (n b : Bool) → Undone ≡ points_judged n b → ⊥
    never n false e = cc e
    never true true e = cc e
    never false true e = cc e
undone_by_undo game opinion (Chooses colour) reply j = absurd (never reply.ok (choice_of_text reply.text.items) j)
  where
    never : (b : Bool) (said : Option Choice) → ChoiceJudged game colour b said Undone → ⊥
    never false said e = cc e
    never true None e = cc e
    never true (Some choice.Resign) e = cc e
    never true (Some (choice.Play v)) e = e

-- and a score alone says what the engine thinks of the board
pub opines_scores : (game : GameRecord) (opinion : Opinion) (due : Due) (reply : Reply) (new : Opinion)
    → Judged game opinion due reply (Opines new) → (size : ℕ) × (komi : ℤ) × (due ≡ Scores size komi)
opines_scores game opinion (Scores s k) reply new j = (s, k, refl)
opines_scores game opinion Succeeds reply new j = absurd (never reply.ok j)
  where
    never : (b : Bool) → Opines new ≡ success_judged b → ⊥
    never true e = cc e
    never false e = cc e
opines_scores game opinion AnyReply reply new j = absurd (cc j)
opines_scores game opinion Lists reply new j = absurd (never _ reply.ok j)
  where
    never : (n b : Bool) → Opines new ≡ list_judged n b → ⊥
    never n false e = cc e
    never true true e = cc e
    never false true e = cc e
opines_scores game opinion MayUndo reply new j = absurd (never reply.ok j)
  where
    never : (b : Bool) → Opines new ≡ undo_judged b → ⊥
    never true e = cc e
    never false e = cc e
opines_scores game opinion (Fails cause) reply new j = absurd (never reply.ok j)
  where
    never : (b : Bool) → Opines new ≡ failure_judged cause b → ⊥
    never true e = cc e
    never false e = cc e
opines_scores game opinion (Resizes size) reply new j = absurd (never reply.ok j)
  where
    never : (b : Bool) → Opines new ≡ size_judged size b → ⊥
    never true e = cc e
    never false e = cc e
opines_scores game opinion (Places size stones) reply new j = absurd (never _ reply.ok j)
  where
    never : (n b : Bool) → Opines new ≡ points_judged n b → ⊥
    never n false e = cc e
    never true true e = cc e
    never false true e = cc e
opines_scores game opinion (Chooses colour) reply new j =
    absurd (never reply.ok (choice_of_text reply.text.items) j)
  where
    never : (b : Bool) (said : Option Choice) → ChoiceJudged game colour b said (Opines new) → ⊥
    never false said e = cc e
    never true None e = cc e
    never true (Some choice.Resign) e = cc e
    never true (Some (choice.Play v)) e = e

-- what is judged may be applied: a move that is made is legal and has room, and one that is taken back is there
pub may_apply : (game : GameRecord) (opinion : Opinion) (due : Due) (reply : Reply) (got : Judgement)
    → MayBeTaken game due → Judged game opinion due reply got → MayApply game got
may_apply game opinion due reply Right may j = tt
may_apply game opinion due reply (Resized size) may j = tt
may_apply game opinion due reply (Opines new) may j = tt
may_apply game opinion due reply (Wrong kind) may j = tt
may_apply game opinion due reply Undone may j = subst (MayBeTaken game) (undone_by_undo game opinion due reply j).0 may
may_apply game opinion due reply (Plays colour v) may j =
    let chosen = plays_chosen game opinion due reply colour v j in (
      chosen_legal game chosen.0 reply.ok (choice_of_text reply.text.items) colour v
          (subst (λ (d : Due). Judged game opinion d reply (Plays colour v)) chosen.1 j),
      subst (MayBeTaken game) chosen.1 may,
    )

judged_orderly : (exam : Exam) (asked : Asked) (later : List Asked) (reply : Reply) (got : Judgement)
    → exam.unanswered ≡ asked ∷ later → AreOrderly exam.game exam.sent (asked ∷ later)
    → Judged exam.game exam.opinion asked.due reply got → IsOrderly (after_judged exam got)
judged_orderly exam asked later reply Right is o j =
    subst (λ (l : List Asked). AreOrderly exam.game exam.sent (drop 1 l)) (sym is)
    (right_parts exam.game exam.sent asked later o)
judged_orderly exam asked later reply (Plays colour v) is o j =
    let chosen = plays_chosen exam.game exam.opinion asked.due reply colour v j in
    subst (λ (l : List Asked). AreOrderly (with_move exam.game colour v) exam.sent (drop 1 l)) (sym is)
    (played_parts exam.game (with_move exam.game colour v) exam.sent asked later
    (ap is_open chosen.1) o)
judged_orderly exam asked later reply (Resized size) is o j =
    let due = resized_due exam.game exam.opinion asked.due reply size j in
    let new : GameRecord = after_command exam.game (Boardsize size) in
    subst (λ (l : List Asked). AreOrderly new exam.sent (drop 1 l)) (sym is)
    (played_parts exam.game new exam.sent asked later
    (ap is_open due.0) o)
judged_orderly exam asked later reply Undone is o j =
    let due = undone_by_undo exam.game exam.opinion asked.due reply j in
    let new : GameRecord = without_last exam.game in
    subst (λ (l : List Asked). AreOrderly new exam.sent (drop 1 l)) (sym is)
    (played_parts exam.game new exam.sent asked later (ap is_open due.0) o)
judged_orderly exam asked later reply (Opines new) is o j =
    subst (λ (l : List Asked). AreOrderly exam.game exam.sent (drop 1 l)) (sym is)
    (right_parts exam.game exam.sent asked later o)
judged_orderly exam asked later reply (Wrong kind) is o j =
    subst (λ (l : List Asked). AreOrderly exam.game exam.sent l) (sym is) o

id_orderly : (exam : Exam) (asked : Asked) (later : List Asked) (reply : Reply) (b : Bool) (finding : Option Finding)
    (new : Exam) → exam.unanswered ≡ asked ∷ later → AreOrderly exam.game exam.sent (asked ∷ later)
    → IdLeaves exam (reply_to asked reply) b finding new → IsOrderly new
id_orderly exam asked later reply false finding new is o h =
    subst IsOrderly (sym h.1) (subst (λ (l : List Asked). AreOrderly exam.game exam.sent l) (sym is) o)
id_orderly exam asked later reply true finding new is o h =
    subst IsOrderly (sym h.3) (judged_orderly (with_learned exam asked.command reply) asked later reply h.0 is o h.1)

reply_orderly : (exam : Exam) (list : List Asked) (reply : Reply) (finding : Option Finding) (new : Exam)
    → exam.unanswered ≡ list → IsOrderly exam → ReplyLeaves exam (oldest list) reply finding new → IsOrderly new
reply_orderly exam [] reply finding new is o h = subst IsOrderly (sym h.1) o
reply_orderly exam (asked ∷ later) reply finding new is o h =
    id_orderly exam asked later reply (has_id reply.id asked.id) finding new is
    (subst (λ (l : List Asked). AreOrderly exam.game exam.sent l) is o) h

leaves_orderly : (exam : Exam) (read : Option (Result Reply ReplyFault)) (finding : Option Finding) (new : Exam)
    → IsOrderly exam → Leaves exam read finding new → IsOrderly new
leaves_orderly exam None finding new o h = subst IsOrderly (sym h.1) o
leaves_orderly exam (Some (Err shown)) finding new o h = subst IsOrderly (sym h.1) o
leaves_orderly exam (Some (Ok reply)) finding new o h = reply_orderly exam exam.unanswered reply finding new refl o h

pub heard_orderly : (old : Exam) (bytes : List ℕ) (used : ℕ) (read : Option (Result Reply ReplyFault))
    (finding : Option Finding) (new : Exam) → IsOrderly old
    → Hears old bytes (hearing used read finding) new → IsOrderly new
heard_orderly old bytes used read finding new o h = leaves_orderly (with_rest old h.0) read finding new o h.2
