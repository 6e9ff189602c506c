-- A command more keeps an examiner orderly.
use Rattle.std.proofs.Common.{◌≡◌, ℕ, ◌+◌, ◌<◌, ap, Bool, true, false, List, [], ◌∷◌, ◌++◌, length, refl}
use Rattle.std.proofs.Common.{sym, ◌∙◌, subst, arith, length-append}
use Rattle.std.specs.Prelude.{◌||◌}
use Rattle.go_base.specs.Handicap.{AllowsHandicap}
use Rattle.go_base.specs.declared.moves.Move.{Move}
use Rattle.go_board.specs.Game.{GameRecord}
use Rattle.gtp_check_judge.specs.declared.asking.CheckCommand.{CheckCommand}
use Rattle.gtp_check_judge.specs.declared.asking.CheckCommand.TheVariants.{Match, FinalScore, Name, Version}
use Rattle.gtp_check_judge.specs.declared.asking.CheckCommand.TheVariants.{KnownCommand, PlayInFull, GenmoveInFull, ListCommands}
use Rattle.gtp_check_judge.specs.declared.asking.CheckCommand.TheVariants.{Faulty, Required}
use Rattle.gtp_wire.specs.declared.commands.Command.TheVariants.{Boardsize, Komi, ClearBoard, FixedHandicap, Play}
use Rattle.gtp_wire.specs.declared.commands.Command.TheVariants.{Genmove, Undo, Quit}
use Rattle.gtp_check_judge.specs.declared.dues.Due.{Due}
use Rattle.gtp_check_judge.specs.declared.dues.Due.TheVariants.{Succeeds, Fails, Places, Resizes, Scores, AnyReply}
use Rattle.gtp_check_judge.specs.declared.dues.Due.TheVariants.{Chooses, MayUndo, Lists}
use Rattle.gtp_check_judge.specs.declared.unanswered.Asked.{Asked}
use Rattle.gtp_check_judge.specs.declared.exam.Exam.{Exam}
use Rattle.gtp_check_judge.specs.RightEngine.{RightEngine}
use Rattle.gtp_check_judge.specs.Dues.{IsDue, HandicapDue, PlayDue, UndoDue, after_due}
use Rattle.gtp_check_judge.specs.Judging.{awaits, is_awaited, is_open, undo_may_fail}
use Rattle.gtp_check_judge.specs.Exam.{Asks, engine_of}
use Rattle.gtp_check_judge.specs.Exam.{MayBeTaken, AreNumbered, MayAllBeTaken, AreOrderly, IsOrderly}
use Rattle.gtp_check_judge.specs.Exam.{HasRoomFor}
use Rattle.gtp_check_judge.proofs.commands.Komis.{komi_closed, of_komi}

-- ---- tests

pub or_left : (a b : Bool) → (a || b) ≡ false → a ≡ false
or_left false b e = refl
or_left true b e = cc

pub or_right : (a b : Bool) → (a || b) ≡ false → b ≡ false
or_right false b e = e
or_right true b e = cc

pub or_true : (a b : Bool) → b ≡ true → (a || b) ≡ true
or_true true b e = refl
or_true false b e = e

-- ---- what is due may be judged

pub due_taken : (engine : RightEngine) (command : CheckCommand) (due : Due) → IsDue engine command due
    → MayBeTaken (after_due engine.game command due) due
due_taken engine (Match (Boardsize size)) Succeeds h = absurd (cc (h.0))
due_taken engine (Match (Boardsize size)) (Fails cause) h = absurd (cc (h.0))
due_taken engine (Match (Boardsize size)) (Places s n) h = absurd (cc (h.0))
due_taken engine (Match (Boardsize size)) (Resizes s) h = tt
due_taken engine (Match (Boardsize size)) (Scores s k) h = absurd (cc (h.0))
due_taken engine (Match (Boardsize size)) AnyReply h = absurd (cc (h.0))
due_taken engine (Match (Boardsize size)) (Chooses c) h = absurd (cc (h.0))
due_taken engine (Match (Boardsize size)) MayUndo h = absurd (cc (h.0))
due_taken engine (Match (Boardsize size)) Lists h = absurd (cc (h.0))
due_taken engine (Match (Komi komi)) Succeeds h = tt
due_taken engine (Match (Komi komi)) (Fails cause) h = absurd (of_komi komi (Fails cause) h.0)
due_taken engine (Match (Komi komi)) (Places s n) h = absurd (of_komi komi (Places s n) h.0)
due_taken engine (Match (Komi komi)) (Resizes s) h = absurd (of_komi komi (Resizes s) h.0)
due_taken engine (Match (Komi komi)) (Scores s k) h = absurd (of_komi komi (Scores s k) h.0)
due_taken engine (Match (Komi komi)) AnyReply h = tt
due_taken engine (Match (Komi komi)) (Chooses c) h = absurd (of_komi komi (Chooses c) h.0)
due_taken engine (Match (Komi komi)) MayUndo h = absurd (of_komi komi MayUndo h.0)
due_taken engine (Match (Komi komi)) Lists h = absurd (of_komi komi Lists h.0)
due_taken engine (Match ClearBoard) Succeeds h = tt
due_taken engine (Match ClearBoard) (Fails cause) h = absurd (cc h)
due_taken engine (Match ClearBoard) (Places s n) h = absurd (cc h)
due_taken engine (Match ClearBoard) (Resizes s) h = absurd (cc h)
due_taken engine (Match ClearBoard) (Scores s k) h = absurd (cc h)
due_taken engine (Match ClearBoard) AnyReply h = absurd (cc h)
due_taken engine (Match ClearBoard) (Chooses c) h = absurd (cc h)
due_taken engine (Match ClearBoard) MayUndo h = absurd (cc h)
due_taken engine (Match ClearBoard) Lists h = absurd (cc h)
due_taken engine (Match (FixedHandicap stones)) (Places size count) h =
    subst (λ (s : ℕ). AllowsHandicap s count) (sym h.0)
    (subst (λ (n : ℕ). AllowsHandicap engine.game.size n) (sym h.1) h.3)
due_taken engine (Match (FixedHandicap stones)) Succeeds h = tt
due_taken engine (Match (FixedHandicap stones)) (Fails cause) h = tt
due_taken engine (Match (FixedHandicap stones)) (Resizes s) h = absurd h
due_taken engine (Match (FixedHandicap stones)) (Scores s k) h = absurd h
due_taken engine (Match (FixedHandicap stones)) AnyReply h = absurd h
due_taken engine (Match (FixedHandicap stones)) (Chooses c) h = absurd h
due_taken engine (Match (FixedHandicap stones)) MayUndo h = absurd h
due_taken engine (Match (FixedHandicap stones)) Lists h = absurd h
due_taken engine (Match (Play move)) Succeeds h = tt
due_taken engine (Match (Play move)) (Fails cause) h = tt
due_taken engine (Match (Play move)) (Places s n) h = absurd h
due_taken engine (Match (Play move)) (Resizes s) h = absurd h
due_taken engine (Match (Play move)) (Scores s k) h = absurd h
due_taken engine (Match (Play move)) AnyReply h = absurd h
due_taken engine (Match (Play move)) (Chooses c) h = absurd h
due_taken engine (Match (Play move)) MayUndo h = absurd h
due_taken engine (Match (Play move)) Lists h = absurd h
due_taken engine (Match (Genmove colour)) Succeeds h = absurd (cc (h.0))
due_taken engine (Match (Genmove colour)) (Fails cause) h = absurd (cc (h.0))
due_taken engine (Match (Genmove colour)) (Places s n) h = absurd (cc (h.0))
due_taken engine (Match (Genmove colour)) (Resizes s) h = absurd (cc (h.0))
due_taken engine (Match (Genmove colour)) (Scores s k) h = absurd (cc (h.0))
due_taken engine (Match (Genmove colour)) AnyReply h = absurd (cc (h.0))
due_taken engine (Match (Genmove colour)) (Chooses c) h = h.1
due_taken engine (Match (Genmove colour)) MayUndo h = absurd (cc (h.0))
due_taken engine (Match (Genmove colour)) Lists h = absurd (cc (h.0))
due_taken engine (Match Undo) Succeeds h = tt
due_taken engine (Match Undo) (Fails cause) h = tt
due_taken engine (Match Undo) (Places s n) h = absurd h
due_taken engine (Match Undo) (Resizes s) h = absurd h
due_taken engine (Match Undo) (Scores s k) h = absurd h
due_taken engine (Match Undo) AnyReply h = absurd h
due_taken engine (Match Undo) (Chooses c) h = absurd h
due_taken engine (Match Undo) MayUndo h = h.1
due_taken engine (Match Undo) Lists h = absurd h
due_taken engine (Match Quit) due h = absurd h
due_taken engine FinalScore due h =
    subst (λ (d : Due). MayBeTaken (after_due engine.game FinalScore d) d) (sym h.0) tt
due_taken engine Name due h = subst (λ (d : Due). MayBeTaken (after_due engine.game Name d) d) (sym h) tt
due_taken engine Version due h = subst (λ (d : Due). MayBeTaken (after_due engine.game Version d) d) (sym h) tt
due_taken engine (KnownCommand k) due h =
    subst (λ (d : Due). MayBeTaken (after_due engine.game (KnownCommand k) d) d) (sym h) tt
due_taken engine ListCommands due h =
    subst (λ (d : Due). MayBeTaken (after_due engine.game ListCommands d) d) (sym h) tt
due_taken engine (Faulty command) due h =
    subst (λ (d : Due). MayBeTaken (after_due engine.game (Faulty command) d) d) (sym h) tt
due_taken engine (Required command) due h =
    subst (λ (d : Due). MayBeTaken (after_due engine.game (Required command) d) d) (sym h) tt
due_taken engine (PlayInFull move) Succeeds h = tt
due_taken engine (PlayInFull move) (Fails cause) h = tt
due_taken engine (PlayInFull move) (Places s n) h = absurd h
due_taken engine (PlayInFull move) (Resizes s) h = absurd h
due_taken engine (PlayInFull move) (Scores s k) h = absurd h
due_taken engine (PlayInFull move) AnyReply h = absurd h
due_taken engine (PlayInFull move) (Chooses c) h = absurd h
due_taken engine (PlayInFull move) MayUndo h = absurd h
due_taken engine (PlayInFull move) Lists h = absurd h
due_taken engine (GenmoveInFull colour) Succeeds h = absurd (cc (h.0))
due_taken engine (GenmoveInFull colour) (Fails cause) h = absurd (cc (h.0))
due_taken engine (GenmoveInFull colour) (Places s n) h = absurd (cc (h.0))
due_taken engine (GenmoveInFull colour) (Resizes s) h = absurd (cc (h.0))
due_taken engine (GenmoveInFull colour) (Scores s k) h = absurd (cc (h.0))
due_taken engine (GenmoveInFull colour) AnyReply h = absurd (cc (h.0))
due_taken engine (GenmoveInFull colour) (Chooses c) h = h.1
due_taken engine (GenmoveInFull colour) MayUndo h = absurd (cc (h.0))
due_taken engine (GenmoveInFull colour) Lists h = absurd (cc (h.0))

-- ---- what is awaited

-- neither a handicap nor a `play` leaves open what is done
handicap_closed : (game : GameRecord) (stones : ℕ) (due : Due) → HandicapDue game stones due → is_open due ≡ false
handicap_closed game stones Succeeds h = refl
handicap_closed game stones (Fails cause) h = refl
handicap_closed game stones (Places s n) h = refl
handicap_closed game stones (Resizes s) h = absurd h
handicap_closed game stones (Scores s k) h = absurd h
handicap_closed game stones AnyReply h = refl
handicap_closed game stones (Chooses c) h = absurd h
handicap_closed game stones MayUndo h = absurd h
handicap_closed game stones Lists h = absurd h

play_closed : (game : GameRecord) (move : Move) (due : Due) → PlayDue game move due → is_open due ≡ false
play_closed game move Succeeds h = refl
play_closed game move (Fails cause) h = refl
play_closed game move (Places s n) h = refl
play_closed game move (Resizes s) h = absurd h
play_closed game move (Scores s k) h = absurd h
play_closed game move AnyReply h = refl
play_closed game move (Chooses c) h = absurd h
play_closed game move MayUndo h = absurd h
play_closed game move Lists h = absurd h

never : (due : Due) → is_open due ≡ false → is_open due ≡ true → ⊥
never due closed opens = let e : true ≡ false = sym opens ∙ closed in cc e

pub may_fail : (undone : Bool) (moves : List Move) → undone ≡ true → 0 < length moves
    → undo_may_fail undone moves ≡ true
may_fail undone [] is some = absurd (omega (arith, some))
may_fail undone (move ∷ later) is some = is

undo_awaited : (engine : RightEngine) (due : Due) → UndoDue engine due → is_open due ≡ true
    → undo_may_fail engine.undone engine.game.moves ≡ true
undo_awaited engine MayUndo h e = may_fail engine.undone engine.game.moves h.0 h.1
undo_awaited engine Lists h e = absurd h
undo_awaited engine Succeeds h e = absurd (cc e)
undo_awaited engine (Fails cause) h e = absurd (cc e)
undo_awaited engine (Places s n) h e = absurd h
undo_awaited engine (Resizes s) h e = absurd h
undo_awaited engine (Scores s k) h e = absurd h
undo_awaited engine AnyReply h e = absurd h
undo_awaited engine (Chooses c) h e = absurd h

-- what leaves open what is done is awaited
pub open_awaited : (engine : RightEngine) (command : CheckCommand) (due : Due) → IsDue engine command due
    → is_open due ≡ true → is_awaited engine command ≡ true
open_awaited engine (Match (Boardsize size)) due h e = refl
open_awaited engine (Match (Genmove colour)) due h e = refl
open_awaited engine (Match Undo) due h e = undo_awaited engine due h e
open_awaited engine (Match (Komi komi)) due h e = absurd (never due (komi_closed komi due h.0) e)
open_awaited engine (Match ClearBoard) due h e = absurd (never due (ap is_open h) e)
open_awaited engine (Match (FixedHandicap stones)) due h e =
    absurd (never due (handicap_closed engine.game stones due h) e)
open_awaited engine (Match (Play move)) due h e = absurd (never due (play_closed engine.game move due h) e)
open_awaited engine (Match Quit) due h e = absurd h
open_awaited engine FinalScore due h e = refl
open_awaited engine Name due h e = absurd (never due (ap is_open h) e)
open_awaited engine Version due h e = absurd (never due (ap is_open h) e)
open_awaited engine (KnownCommand k) due h e = absurd (never due (ap is_open h) e)
open_awaited engine ListCommands due h e = absurd (never due (ap is_open h) e)
open_awaited engine (Faulty command) due h e = absurd (never due (ap is_open h) e)
open_awaited engine (Required command) due h e = absurd (never due (ap is_open h) e)
open_awaited engine (PlayInFull move) due h e = absurd (never due (play_closed engine.game move due h) e)
open_awaited engine (GenmoveInFull colour) due h e = refl

-- ---- a command more

-- without one that is awaited among them the game doesn't matter
taken_anywhere : (old new : GameRecord) (list : List Asked) → awaits list ≡ false → MayAllBeTaken old list
    → MayAllBeTaken new list
taken_anywhere old new [] none all = tt
taken_anywhere old new (asked ∷ later) none all = (
  one asked.due (or_left (is_open asked.due) (awaits later) none) all.0,
  taken_anywhere old new later (or_right (is_open asked.due) (awaits later) none) all.1,
)
  where
    one : (due : Due) → is_open due ≡ false → MayBeTaken old due → MayBeTaken new due
    one (Chooses c) isnt h = absurd (cc isnt)
    one MayUndo isnt h = absurd (cc isnt)
    one Lists isnt h = tt
    one (Places size stones) isnt h = h
    one (Resizes size) isnt h = h
    one Succeeds isnt h = tt
    one (Scores s k) isnt h = absurd (cc isnt)
    one AnyReply isnt h = tt
    one (Fails cause) isnt h = tt

taken_more : (game : GameRecord) (list : List Asked) (asked : Asked) → MayAllBeTaken game list
    → MayBeTaken game asked.due → MayAllBeTaken game (list ++ asked ∷ [])
taken_more game [] asked all one = (one, tt)
taken_more game (first ∷ later) asked all one = (all.0, taken_more game later asked all.1 one)

numbered_more : (before : ℕ) (list : List Asked) (asked : Asked) → AreNumbered before list
    → asked.id ≡ before + length list + 1 → AreNumbered before (list ++ asked ∷ [])
numbered_more before [] asked all is = (let e : asked.id ≡ before + 1 = omega arith in e, tt)
numbered_more before (first ∷ later) asked all is =
    (all.0, numbered_more (before + 1) later asked all.1 (omega arith))

awaits_more : (list : List Asked) (asked : Asked) → awaits list ≡ false
    → awaits (list ++ asked ∷ []) ≡ true → is_open asked.due ≡ true
awaits_more [] asked none e = last (is_open asked.due) e
  where
    last : (b : Bool) → (b || false) ≡ true → b ≡ true
    last true e = refl
    last false e = absurd (cc e)
awaits_more (first ∷ later) asked none e =
    awaits_more later asked (or_right (is_open first.due) (awaits later) none)
    (past (is_open first.due) (awaits (later ++ asked ∷ []))
    (or_left (is_open first.due) (awaits later) none) e)
  where
    past : (a b : Bool) → a ≡ false → (a || b) ≡ true → b ≡ true
    past true b isnt e = absurd (cc isnt)
    past false b isnt e = e

one_alone : (list : List Asked) (asked : Asked) → list ≡ [] → length (list ++ asked ∷ []) ≡ 1
one_alone [] asked e = refl
one_alone (first ∷ later) asked e = absurd (cc e)

asked_parts : (exam : Exam) (command : CheckCommand) (due : Due) → IsOrderly exam → HasRoomFor exam command
    → IsDue (engine_of exam) command due
    → AreOrderly (after_due exam.game command due) (exam.sent + 1)
    (exam.unanswered ++ record { id = exam.sent + 1; command = command; due = due } ∷ [])
asked_parts exam command due o room is =
    let entry : Asked = record { id = exam.sent + 1; command = command; due = due } in
    record {
      few = omega (arith, length-append exam.unanswered (entry ∷ []), room.few);
      alone = λ e. one_alone exam.unanswered entry (room.alone
          (open_awaited (engine_of exam) command due is (awaits_more exam.unanswered entry room.none_awaits e)));
      ints = omega (arith, room.id);
      answered = o.answered;
      count = omega (arith, length-append exam.unanswered (entry ∷ []), o.count);
      numbered = numbered_more o.answered exam.unanswered entry o.numbered (omega (arith, o.count));
      judged =
          taken_more (after_due exam.game command due) exam.unanswered entry
          (taken_anywhere exam.game (after_due exam.game command due) exam.unanswered room.none_awaits o.judged)
          (due_taken (engine_of exam) command due is);
    }

pub asked_orderly : (old : Exam) (command : CheckCommand) (new : Exam) → IsOrderly old → HasRoomFor old command
    → Asks old command new → IsOrderly new
asked_orderly old command new o room a =
    subst IsOrderly (sym a.new_is) (asked_parts old command a.due o room a.is_due)
