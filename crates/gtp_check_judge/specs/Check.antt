-- A check of one engine over all its starts.
use Rattle.std.specs.Prelude.{◌≡◌, ℕ, ◌+◌, ◌<◌, ◌≤◌, true, false, List, Option, Result, length}
use Rattle.go_board.specs.declared.rules.KoRule.{KoRule}
use Rattle.gtp_wire.specs.declared.replies.Reply.{Reply}
use Rattle.gtp_wire.specs.declared.replies.ReplyFault.{ReplyFault}
use Rattle.gtp_wire.specs.Replies.{GivesNoAnswer}
use Rattle.gtp_check_judge.specs.declared.asking.CheckCommand.{CheckCommand}
use Rattle.gtp_check_judge.specs.declared.exam.Exam.{Exam}
use Rattle.gtp_check_judge.specs.declared.exam.Finding.{Finding}
use Rattle.gtp_check_judge.specs.Exam.{begun, downed, Asks, Hears, HasRoomFor, IsOrderly, hearing}

-- The exam of the engine that was started last, how many starts there were, and how many there may be.
pub record Check : Type 0 where
  pub exam : Exam
  pub starts : ℕ
  pub most_starts : ℕ

-- before the first start, with so many starts allowed
abbrev pub opening : KoRule → ℕ → Check
opening rule most = record { exam = begun rule false; starts = 0; most_starts = most }

-- after a start more: the engine was asked nothing yet
abbrev pub started : Check → Check
started check = record check { exam = begun check.exam.game.rule true; starts = check.starts + 1 }

-- the same starts, with this exam
abbrev pub with_exam : Check → Exam → Check
with_exam check exam = record check { exam = exam }

-- after the engine was lost: it is down
abbrev pub after_loss : Check → Check
after_loss check = with_exam check (downed check.exam)

-- The exam is orderly, there were no more starts than there may be, and of an engine that is up no whole reply is held
-- back, and no fault.
pub record IsWithin (exam : Exam) (starts most_starts : ℕ) : Type 0 where
  pub orderly : IsOrderly exam
  pub few : starts ≤ most_starts
  pub quiet : exam.up ≡ true → GivesNoAnswer exam.reader

-- ---- every check is bounded

-- The calls on a check with this ko rule and so many starts allowed: how many of them were starts, and the check after
-- them. Whatever is heard, each call is a step of the exam.
pub data Calls (rule : KoRule) (most : ℕ) : ℕ → Check → Type 0 where
  opened : Calls rule most 0 (opening rule most)
  start : {count : ℕ} {old : Check} → Calls rule most count old → old.starts < old.most_starts
      → Calls rule most (count + 1) (started old)
  ask : {count : ℕ} {old : Check} {new : Exam} (command : CheckCommand) → Calls rule most count old
      → HasRoomFor old.exam command → Asks old.exam command new → Calls rule most count (with_exam old new)
  hear : {count : ℕ} {old : Check} {new : Exam} (bytes : List ℕ) (used : ℕ)
      (read : Option (Result Reply ReplyFault)) (finding : Option Finding) → Calls rule most count old
      → Hears old.exam bytes (hearing used read finding) new → Calls rule most count (with_exam old new)
  lost : {count : ℕ} {old : Check} → Calls rule most count old
      → Calls rule most count (after_loss old)

-- The starts are counted, and there are no more than were allowed. At most eight commands are unanswered. One engine
-- is asked no more commands than there are ids.
pub record IsBounded (most count : ℕ) (check : Check) : Type 0 where
  pub counted : count ≡ check.starts
  pub few_starts : count ≤ most
  pub few_unanswered : length check.exam.unanswered ≤ 8
  pub few_asked : check.exam.sent ≤ 2147483647

abbrev pub EveryCheckIsBounded : Type 0
EveryCheckIsBounded = (rule : KoRule) (most count : ℕ) (check : Check)
    → Calls rule most count check → IsBounded most count check
