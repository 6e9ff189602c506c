-- Where a success or a failure is due, a size, or points: what is judged right is a right answer.
use Rattle.std.proofs.Common.{◌≡◌, ℕ, Bool, true, false, Some, refl, sym, ◌∙◌, ap, subst}
use Rattle.std.specs.Prelude.{◌&&◌, if◌then◌else◌}
use Rattle.go_base.specs.declared.choices.Choice.{Choice}
use Rattle.go_base.specs.declared.colours.Colour.{Colour}
use Rattle.go_base.specs.declared.vertices.Vertex.{Vertex}
use Rattle.go_board.specs.Game.{GameRecord, with_move, without_last}
use Rattle.gtp_check_judge.specs.declared.asking.CheckCommand.{CheckCommand}
use Rattle.gtp_check_judge.specs.declared.asking.CheckCommand.TheVariants.{Match, FinalScore, Name, Version}
use Rattle.gtp_check_judge.specs.declared.asking.CheckCommand.TheVariants.{KnownCommand, PlayInFull, GenmoveInFull, ListCommands}
use Rattle.gtp_check_judge.specs.declared.asking.CheckCommand.TheVariants.{Faulty, Required}
use Rattle.go_base.specs.declared.moves.Move.{Move}
use Rattle.gtp_wire.specs.declared.commands.Command.TheVariants.{Boardsize, Komi, ClearBoard, FixedHandicap, Play}
use Rattle.gtp_wire.specs.declared.commands.Command.TheVariants.{Genmove, Undo, Quit}
use Rattle.gtp_wire.specs.declared.replies.Reply.{Reply}
use Rattle.gtp_session.specs.Commands.{answer, asked}
use Rattle.gtp_session.specs.CommandAnswers.{after_command}
use Rattle.gtp_check_judge.specs.declared.dues.Cause.{Cause}
use Rattle.gtp_check_judge.specs.declared.dues.Due.{Due}
use Rattle.gtp_check_judge.specs.declared.dues.Due.TheVariants.{Succeeds, Fails, Places, Resizes, Scores, AnyReply}
use Rattle.gtp_check_judge.specs.declared.dues.Due.TheVariants.{Chooses, MayUndo, Lists}
use Rattle.gtp_check_judge.specs.declared.judging.Judgement.{Judgement}
use Rattle.gtp_check_judge.specs.declared.judging.Judgement.TheVariants.{Right, Plays, Resized, Undone, Opines, Wrong}
use Rattle.gtp_check_judge.specs.declared.opinions.Opinion.{Opinion}
use Rattle.gtp_check_judge.specs.declared.unanswered.Asked.{Asked}
use Rattle.gtp_check_judge.specs.RightEngine.{RightEngine, undone_after, opinion_after}
use Rattle.gtp_check_judge.specs.Dues.{IsDue, UndoDue, PlayDue, after_check, engine_after, undone_once}
use Rattle.gtp_check_judge.specs.Judging.{success_judged, failure_judged, size_judged, undo_judged, points_judged}
use Rattle.gtp_check_judge.specs.Judging.{are_points}
use Rattle.gtp_check_judge.specs.Laws.{line_of_asked, Says, MayRefuse, after_refusal, IsByTable, IsRight, KindIsTrue}
use Rattle.go_base.specs.declared.choices.Choice.TheVariants as choice
use Rattle.gtp_check_judge.proofs.answers.Table.{AnswersSo}
use Rattle.gtp_check_judge.proofs.answers.Texts.{MayFail, free_fails, points_said, resign_lawful, resizes_boardsize}
use Rattle.gtp_check_judge.proofs.answers.Texts.{undos_undo}
use Rattle.gtp_check_judge.proofs.answers.Texts.{says_failure, says_points, says_success}

-- where none may refuse, a right answer is one by the table
pub by_table : (before : RightEngine) (entry : Asked) (reply : Reply) (after : RightEngine) (due : Due)
    → IsDue before entry.command due → (MayFail due → ⊥)
    → IsRight before entry reply after → IsByTable before entry reply after
by_table before entry reply after due h un (IsRight.by_table right) = right
by_table before entry reply after due h un (IsRight.by_refusal refuses) =
    absurd (un (free_fails before entry.command due refuses.may h))

-- nor is a success a refusal
pub by_success : (before : RightEngine) (entry : Asked) (reply : Reply) (after : RightEngine) → reply.ok ≡ true
    → IsRight before entry reply after → IsByTable before entry reply after
by_success before entry reply after ok (IsRight.by_table right) = right
by_success before entry reply after ok (IsRight.by_refusal refuses) =
    absurd (let e : true ≡ false = sym ok ∙ refuses.status in cc e)

-- a refusal of what may be refused is right
pub refusal_right : (before : RightEngine) (entry : Asked) (reply : Reply) (after : RightEngine)
    → MayRefuse before entry.command → after ≡ after_refusal before entry.command
    → reply.id ≡ Some entry.id → reply.ok ≡ false → IsRight before entry reply after
refusal_right before entry reply after may leaves id ok =
    IsRight.by_refusal (record { may = may; id = id; status = ok; leaves = leaves })

abbrev pub engine_with : GameRecord → Bool → Opinion → RightEngine
engine_with game undone opinion = record { game = game; undone = undone; opinion = opinion }

-- the engine after a move, after it took a size, after a move was taken back, and after a score
abbrev pub moved : RightEngine → Colour → Vertex → RightEngine
moved engine colour v = engine_with (with_move engine.game colour v) false engine.opinion

abbrev pub resized : RightEngine → ℕ → RightEngine
resized engine size = engine_with (after_command engine.game (Boardsize size)) engine.undone engine.opinion

abbrev pub taken_back : RightEngine → RightEngine
taken_back engine = engine_with (without_last engine.game) true engine.opinion

abbrev pub opined : RightEngine → Opinion → RightEngine
opined engine opinion = engine_with engine.game engine.undone opinion

-- what a reply was judged to be holds by the table: a right answer, with the engine after it, or none
abbrev pub HoldsOf : RightEngine → Asked → Reply → Judgement → Type 0
HoldsOf before entry reply Right = IsRight before entry reply (engine_after before entry.command entry.due)
HoldsOf before entry reply (Plays colour v) = IsRight before entry reply (moved before colour v)
HoldsOf before entry reply (Resized size) = IsRight before entry reply (resized before size)
HoldsOf before entry reply Undone = IsRight before entry reply (taken_back before)
HoldsOf before entry reply (Opines opinion) = IsRight before entry reply (opined before opinion)
HoldsOf before entry reply (Wrong kind) =
    ((after : RightEngine) → IsRight before entry reply after → ⊥) × KindIsTrue before entry reply kind

-- ---- whether an `undo` has succeeded since the last move

pub if_true : (b x y : Bool) → b ≡ true → (if b then x else y) ≡ x
if_true true x y e = refl
if_true false x y e = absurd (cc e)

if_false : (b x y : Bool) → b ≡ false → (if b then x else y) ≡ y
if_false false x y e = refl
if_false true x y e = absurd (cc e)

if_same : (b x : Bool) → (if b then x else x) ≡ x
if_same true x = refl
if_same false x = refl

-- by a success that is due
pub undone_done : (engine : RightEngine) (command : CheckCommand) (reply : Reply) → IsDue engine command Succeeds
    → reply.ok ≡ true → undone_after engine.undone command reply ≡ undone_once engine.undone command
undone_done engine (Match Undo) reply h ok = if_true reply.ok true engine.undone ok
undone_done engine (Match (Play move)) reply h ok = if_true reply.ok false engine.undone ok
undone_done engine (Match (Genmove colour)) reply h ok = absurd (cc (h.0))
undone_done engine (Match (Boardsize size)) reply h ok = if_same reply.ok engine.undone
undone_done engine (Match (Komi komi)) reply h ok = if_same reply.ok engine.undone
undone_done engine (Match ClearBoard) reply h ok = if_same reply.ok engine.undone
undone_done engine (Match (FixedHandicap stones)) reply h ok = if_same reply.ok engine.undone
undone_done engine (Match Quit) reply h ok = if_same reply.ok engine.undone
undone_done engine FinalScore reply h ok = refl
undone_done engine Name reply h ok = refl
undone_done engine Version reply h ok = refl
undone_done engine (KnownCommand k) reply h ok = refl
undone_done engine ListCommands reply h ok = refl
undone_done engine (Faulty command) reply h ok = refl
undone_done engine (Required command) reply h ok = refl
undone_done engine (PlayInFull move) reply h ok = if_true reply.ok false engine.undone ok
undone_done engine (GenmoveInFull colour) reply h ok = absurd (cc (h.0))

-- a failure leaves it
pub undone_failed : (undone : Bool) (command : CheckCommand) (reply : Reply) → reply.ok ≡ false
    → undone_after undone command reply ≡ undone
undone_failed undone (Match command) reply ok = if_false reply.ok _ undone ok
undone_failed undone FinalScore reply ok = refl
undone_failed undone Name reply ok = refl
undone_failed undone Version reply ok = refl
undone_failed undone (KnownCommand k) reply ok = refl
undone_failed undone ListCommands reply ok = refl
undone_failed undone (Faulty command) reply ok = refl
undone_failed undone (Required command) reply ok = refl
undone_failed undone (PlayInFull move) reply ok = if_false reply.ok _ undone ok
undone_failed undone (GenmoveInFull colour) reply ok = if_false reply.ok _ undone ok

-- and so does what names points, a size, a score, a list or any text
abbrev pub IsStill : Due → Type 0
IsStill (Places size stones) = Unit {0}
IsStill (Resizes size) = Unit {0}
IsStill (Scores s k) = Unit {0}
IsStill AnyReply = Unit {0}
IsStill Succeeds = ⊥
IsStill (Fails cause) = ⊥
IsStill (Chooses colour) = ⊥
IsStill MayUndo = ⊥
IsStill Lists = Unit {0}

play_stirs : (game : GameRecord) (move : Move) (due : Due) → PlayDue game move due → IsStill due → ⊥
play_stirs game move (Places size stones) h still = h
play_stirs game move (Resizes size) h still = h
play_stirs game move (Scores s k) h still = h
play_stirs game move AnyReply h still = h
play_stirs game move Succeeds h still = still
play_stirs game move (Fails cause) h still = still
play_stirs game move (Chooses colour) h still = still
play_stirs game move MayUndo h still = still
play_stirs game move Lists h still = h

undo_stirs : (engine : RightEngine) (due : Due) → UndoDue engine due → IsStill due → ⊥
undo_stirs engine (Places size stones) h still = h
undo_stirs engine (Resizes size) h still = h
undo_stirs engine (Scores s k) h still = h
undo_stirs engine AnyReply h still = h
undo_stirs engine Succeeds h still = still
undo_stirs engine (Fails cause) h still = still
undo_stirs engine (Chooses colour) h still = still
undo_stirs engine MayUndo h still = still
undo_stirs engine Lists h still = h

pub undone_still : (engine : RightEngine) (command : CheckCommand) (due : Due) (reply : Reply)
    → IsDue engine command due → IsStill due → undone_after engine.undone command reply ≡ engine.undone
undone_still engine (Match Undo) due reply h still = absurd (undo_stirs engine due h still)
undone_still engine (Match (Play move)) due reply h still = absurd (play_stirs engine.game move due h still)
undone_still engine (Match (Genmove colour)) due reply h still = absurd (subst IsStill h.0 still)
undone_still engine (Match (Boardsize size)) due reply h still = if_same reply.ok engine.undone
undone_still engine (Match (Komi komi)) due reply h still = if_same reply.ok engine.undone
undone_still engine (Match ClearBoard) due reply h still = if_same reply.ok engine.undone
undone_still engine (Match (FixedHandicap stones)) due reply h still = if_same reply.ok engine.undone
undone_still engine (Match Quit) due reply h still = if_same reply.ok engine.undone
undone_still engine FinalScore due reply h still = refl
undone_still engine Name due reply h still = refl
undone_still engine Version due reply h still = refl
undone_still engine (KnownCommand k) due reply h still = refl
undone_still engine ListCommands due reply h still = refl
undone_still engine (Faulty command) due reply h still = refl
undone_still engine (Required command) due reply h still = refl
undone_still engine (PlayInFull move) due reply h still = absurd (play_stirs engine.game move due h still)
undone_still engine (GenmoveInFull colour) due reply h still = absurd (subst IsStill h.0 still)

-- ---- what the engine thinks of an empty board

-- only a score changes it
abbrev pub IsNoScore : Due → Type 0
IsNoScore (Scores s k) = ⊥
IsNoScore (Places size stones) = Unit {0}
IsNoScore (Resizes size) = Unit {0}
IsNoScore AnyReply = Unit {0}
IsNoScore Succeeds = Unit {0}
IsNoScore (Fails cause) = Unit {0}
IsNoScore (Chooses colour) = Unit {0}
IsNoScore MayUndo = Unit {0}
IsNoScore Lists = Unit {0}

pub opinion_kept : (engine : RightEngine) (command : CheckCommand) (due : Due) (reply : Reply)
    → IsDue engine command due → IsNoScore due → opinion_after engine command reply ≡ engine.opinion
opinion_kept engine (Match command) due reply h other = refl
opinion_kept engine FinalScore due reply h other = absurd (subst IsNoScore h.0 other)
opinion_kept engine Name due reply h other = refl
opinion_kept engine Version due reply h other = refl
opinion_kept engine (KnownCommand k) due reply h other = refl
opinion_kept engine ListCommands due reply h other = refl
opinion_kept engine (Faulty command) due reply h other = refl
opinion_kept engine (Required command) due reply h other = refl
opinion_kept engine (PlayInFull move) due reply h other = refl
opinion_kept engine (GenmoveInFull colour) due reply h other = refl

-- ---- statuses

-- a status that differs from each answer's is no right one
pub wrong_status : (before : RightEngine) (entry : Asked) (reply : Reply) (due : Due) (ok other : Bool)
    → IsDue before entry.command due → (MayFail due → ⊥) → reply.ok ≡ ok
    → ((ch : Choice) → (answer before.game (line_of_asked entry) ch).ok ≡ other) → (ok ≡ other → ⊥)
    → (after : RightEngine) → IsRight before entry reply after → ⊥
wrong_status before entry reply due ok other h un is all differ after right =
    let tabled = by_table before entry reply after due h un right in
    differ (sym is ∙ tabled.status ∙ all tabled.choice)

-- where the policy isn't asked
pub plain_right : (before : RightEngine) (entry : Asked) (reply : Reply) (ok : Bool) (after : GameRecord)
    → reply.id ≡ Some entry.id → reply.ok ≡ ok
    → (answer before.game (line_of_asked entry) choice.Resign).ok ≡ ok
    → (answer before.game (line_of_asked entry) choice.Resign).game ≡ after
    → Says before entry.command choice.Resign ok reply.text.items
    → IsRight before entry reply
    (engine_with after (undone_after before.undone entry.command reply) (opinion_after before entry.command reply))
plain_right before entry reply ok after id is status game says = IsRight.by_table (record {
  id = id;
  choice = choice.Resign;
  lawful = resign_lawful before.game (asked before.game (line_of_asked entry));
  status = is ∙ sym status;
  says = subst (λ (b : Bool). Says before entry.command choice.Resign b reply.text.items) (sym is) says;
  leaves =
      ap (λ (g : GameRecord). engine_with g (undone_after before.undone entry.command reply)
      (opinion_after before entry.command reply)) (sym game);
})

-- the same, where it is known whether an `undo` has succeeded since the last move, and what the engine thinks of an
-- empty board
pub plain_known : (before : RightEngine) (entry : Asked) (reply : Reply) (ok : Bool) (after : GameRecord)
    (undone : Bool) (opinion : Opinion) → undone_after before.undone entry.command reply ≡ undone
    → opinion_after before entry.command reply ≡ opinion
    → reply.id ≡ Some entry.id → reply.ok ≡ ok
    → (answer before.game (line_of_asked entry) choice.Resign).ok ≡ ok
    → (answer before.game (line_of_asked entry) choice.Resign).game ≡ after
    → Says before entry.command choice.Resign ok reply.text.items
    → IsRight before entry reply (engine_with after undone opinion)
plain_known before entry reply ok after undone opinion known thinks id is status game says =
    subst (λ (u : Bool). IsRight before entry reply (engine_with after u opinion)) known
    (subst (λ (o : Opinion). IsRight before entry reply
    (engine_with after (undone_after before.undone entry.command reply) o)) thinks
    (plain_right before entry reply ok after id is status game says))

-- what is due holds of the reply, where this is due
pub as_due : (before : RightEngine) (entry : Asked) (reply : Reply) (due : Due) → entry.due ≡ due
    → IsRight before entry reply (engine_after before entry.command due) → HoldsOf before entry reply Right
as_due before entry reply due is right =
    subst (λ (d : Due). IsRight before entry reply (engine_after before entry.command d)) (sym is) right

pub success_holds : (before : RightEngine) (entry : Asked) (reply : Reply) (ok : Bool) (got : Judgement)
    → IsDue before entry.command Succeeds → entry.due ≡ Succeeds
    → ((ch : Choice) → AnswersSo before.game entry.command Succeeds (answer before.game (line_of_asked entry) ch))
    → reply.id ≡ Some entry.id → reply.ok ≡ ok → got ≡ success_judged ok → HoldsOf before entry reply got
success_holds before entry reply true got due is so id ok j =
    subst (HoldsOf before entry reply) (sym j)
    (as_due before entry reply Succeeds is
    (plain_known before entry reply true (after_check before.game entry.command)
    (undone_once before.undone entry.command) before.opinion (undone_done before entry.command reply due ok)
    (opinion_kept before entry.command Succeeds reply due tt) id ok
    (so choice.Resign).0 (so choice.Resign).1
    (says_success before entry.command choice.Resign true reply.text.items due)))
success_holds before entry reply false got due is so id ok j =
    subst (HoldsOf before entry reply) (sym j) (
      wrong_status before entry reply Succeeds false true due (λ f. f) ok (λ ch. (so ch).0) (λ e. cc e),
      (ok, (λ ch. (so ch).0), λ may. free_fails before entry.command Succeeds may due),
    )

pub failure_holds : (before : RightEngine) (entry : Asked) (reply : Reply) (cause : Cause) (ok : Bool)
    (got : Judgement)
    → IsDue before entry.command (Fails cause) → entry.due ≡ Fails cause
    → ((ch : Choice) → AnswersSo before.game entry.command (Fails cause) (answer before.game (line_of_asked entry) ch))
    → reply.id ≡ Some entry.id → reply.ok ≡ ok → got ≡ failure_judged cause ok → HoldsOf before entry reply got
failure_holds before entry reply cause false got due is so id ok j =
    subst (HoldsOf before entry reply) (sym j)
    (as_due before entry reply (Fails cause) is
    (plain_known before entry reply false before.game before.undone before.opinion
    (undone_failed before.undone entry.command reply ok)
    (opinion_kept before entry.command (Fails cause) reply due tt) id ok
    (so choice.Resign).0 (so choice.Resign).1
    (says_failure before entry.command choice.Resign reply.text.items)))
failure_holds before entry reply cause true got due is so id ok j =
    subst (HoldsOf before entry reply) (sym j) (
      wrong_status before entry reply (Fails cause) true false due (λ f. f) ok (λ ch. (so ch).0) (λ e. cc e),
      (ok, λ ch. (so ch).0, is),
    )

-- either status is a right answer to a `boardsize`
pub size_holds : (before : RightEngine) (entry : Asked) (reply : Reply) (size : ℕ) (ok : Bool) (got : Judgement)
    → IsDue before entry.command (Resizes size) → entry.due ≡ Resizes size
    → ((ch : Choice) → AnswersSo before.game entry.command (Resizes size)
    (answer before.game (line_of_asked entry) ch))
    → reply.id ≡ Some entry.id → reply.ok ≡ ok → got ≡ size_judged size ok → HoldsOf before entry reply got
size_holds before entry reply size true got due is so id ok j =
    let command : entry.command ≡ Match (Boardsize size) = resizes_boardsize before entry.command size due in
    subst (HoldsOf before entry reply) (sym j)
    (plain_known before entry reply true (after_command before.game (Boardsize size)) before.undone before.opinion
    (undone_still before entry.command (Resizes size) reply due tt)
    (opinion_kept before entry.command (Resizes size) reply due tt) id ok
    (so choice.Resign).0 ((so choice.Resign).1 ∙ ap (after_check before.game) command)
    (subst (λ (k : CheckCommand). Says before k choice.Resign true reply.text.items) (sym command) tt))
size_holds before entry reply size false got due is so id ok j =
    subst (HoldsOf before entry reply) (sym j)
    (as_due before entry reply (Resizes size) is
    (refusal_right before entry reply before (subst (MayRefuse before) (sym
    (resizes_boardsize before entry.command size due)) tt)
    (sym (ap (after_refusal before) (resizes_boardsize before entry.command size due))) id ok))

-- and to an `undo` that may fail
pub undo_holds : (before : RightEngine) (entry : Asked) (reply : Reply) (ok : Bool) (got : Judgement)
    → IsDue before entry.command MayUndo → entry.due ≡ MayUndo
    → ((ch : Choice) → AnswersSo before.game entry.command MayUndo (answer before.game (line_of_asked entry) ch))
    → reply.id ≡ Some entry.id → reply.ok ≡ ok → got ≡ undo_judged ok → HoldsOf before entry reply got
undo_holds before entry reply true got due is so id ok j =
    let undo = undos_undo before entry.command due in
    subst (HoldsOf before entry reply) (sym j)
    (plain_known before entry reply true (without_last before.game) true before.opinion
    (ap (λ (k : CheckCommand). undone_after before.undone k reply) undo.0
    ∙ if_true reply.ok true before.undone ok) (opinion_kept before entry.command MayUndo reply due tt) id ok
    (so choice.Resign).0 ((so choice.Resign).1 ∙ ap (after_check before.game) undo.0)
    (subst (λ (k : CheckCommand). Says before k choice.Resign true reply.text.items) (sym undo.0) tt))
undo_holds before entry reply false got due is so id ok j =
    let undo = undos_undo before entry.command due in
    subst (HoldsOf before entry reply) (sym j)
    (as_due before entry reply MayUndo is
    (refusal_right before entry reply before (subst (MayRefuse before) (sym undo.0) undo.1)
    (sym (ap (after_refusal before) undo.0)) id ok))

other_points : (before : RightEngine) (entry : Asked) (reply : Reply) (size stones : ℕ)
    → IsDue before entry.command (Places size stones) → reply.ok ≡ true → are_points size stones reply ≡ false
    → (after : RightEngine) → IsRight before entry reply after → ⊥
other_points before entry reply size stones due ok named after right =
    let tabled = by_table before entry reply after (Places size stones) due (λ f. f) right in
    let said = subst (λ (b : Bool). Says before entry.command tabled.choice b reply.text.items) ok tabled.says in
    let e : true ≡ false = sym (points_said before entry.command size stones tabled.choice reply.text.items due said)
    ∙ named in cc e

pub points_hold : (before : RightEngine) (entry : Asked) (reply : Reply) (size stones : ℕ) (ok named : Bool)
    (got : Judgement)
    → IsDue before entry.command (Places size stones) → entry.due ≡ Places size stones
    → ((ch : Choice)
    → AnswersSo before.game entry.command (Places size stones) (answer before.game (line_of_asked entry) ch))
    → reply.id ≡ Some entry.id → reply.ok ≡ ok → are_points size stones reply ≡ named
    → got ≡ points_judged (ok && named) ok → HoldsOf before entry reply got
points_hold before entry reply size stones true true got due is so id ok named j =
    subst (HoldsOf before entry reply) (sym j)
    (as_due before entry reply (Places size stones) is
    (plain_known before entry reply true (after_check before.game entry.command) before.undone before.opinion
    (undone_still before entry.command (Places size stones) reply due tt)
    (opinion_kept before entry.command (Places size stones) reply due tt) id ok
    (so choice.Resign).0 (so choice.Resign).1
    (says_points before entry.command size stones choice.Resign reply.text.items due named)))
points_hold before entry reply size stones true false got due is so id ok named j =
    subst (HoldsOf before entry reply) (sym j)
    (other_points before entry reply size stones due ok named, (ok, (size, stones, is, named)))
points_hold before entry reply size stones false named got due is so id ok n j =
    subst (HoldsOf before entry reply) (sym j) (
      wrong_status before entry reply (Places size stones) false true due (λ f. f) ok (λ ch. (so ch).0) (λ e. cc e),
      (ok, (λ ch. (so ch).0), λ may. free_fails before entry.command (Places size stones) may due),
    )
