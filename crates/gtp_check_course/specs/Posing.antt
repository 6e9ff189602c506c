-- What a step asks is asked, and no step is passed over for another reason than those that are said here. (Own.)
use Rattle.std.specs.Prelude.{◌≡◌, ◌+◌, ◌<◌, ◌≤◌, ◌⊎◌, true, false, slice_get, length, None, Some}
use Rattle.go_board.specs.Game.{IsLegal}
use Rattle.go_base.specs.declared.moves.Move.{Move}
use Rattle.gtp_wire.specs.declared.commands.Command.TheVariants as command
use Rattle.gtp_check_judge.specs.declared.asking.CheckCommand.{CheckCommand}
use Rattle.gtp_check_judge.specs.declared.asking.CheckCommand.TheVariants.{Match}
use Rattle.gtp_check_judge.specs.declared.exam.Exam.{Exam}
use Rattle.gtp_check_judge.specs.declared.skills.Skill.TheVariants.{Has}
use Rattle.gtp_check_judge.specs.Exam.{HasRoomFor}
use Rattle.gtp_check_course.specs.declared.actions.Action.{Action}
use Rattle.gtp_check_course.specs.declared.actions.Action.TheVariants.{Ask, Skip}
use Rattle.gtp_check_course.specs.declared.actions.Question.{Question}
use Rattle.gtp_check_course.specs.declared.actions.Question.TheVariants as asked
use Rattle.gtp_check_course.specs.declared.lessons.Lesson.{Lesson}
use Rattle.gtp_check_course.specs.declared.stretches.Stretch.{Stretch}
use Rattle.gtp_check_course.specs.Asking.{IsStep, IsTurn, is_later}
use Rattle.gtp_check_course.specs.Course.{Course, IsLeftOut}
use Rattle.gtp_check_course.specs.Lessons.{stretches_of}
use Rattle.gtp_check_course.specs.Openings.{opening_next}
use Rattle.gtp_check_course.specs.Stretches.{steps_of}

-- A turn in a lesson: the course and the exam before it, what was done, and the course after it.
pub record Turn : Type 0 where
  pub lesson : Lesson
  pub old : Course
  pub exam : Exam
  pub action : Action
  pub new : Course

-- The opening is over, and no `undo` of a move is due: it is the turn of a step, which asks this.
pub record IsTurnOf (turn : Turn) (question : Question) : Type 0 where
  pub is : IsTurn turn.lesson turn.old turn.exam turn.action turn.new
  pub opened : opening_next turn.old.opening ≡ None
  pub due : turn.old.place.undoing ≡ false
  pub step : IsStep turn.lesson turn.old turn.exam.game question

-- a command may be asked now, and is none that is left out
pub record IsAskable (turn : Turn) (command : CheckCommand) : Type 0 where
  pub may : HasRoomFor turn.exam command
  pub wanted : ¬ IsLeftOut turn.old.unasked turn.exam.game command

abbrev pub play_of : Move → CheckCommand
play_of move = Match (command.Play move)

-- the move of a probe is legal in the game
abbrev pub IsTaken : Turn → Move → Type 0
IsTaken turn move = IsLegal turn.exam.game move.colour move.vertex

-- Why a step is passed over: its command may not be asked, or is left out. A probe of a legal move is passed over where
-- that may not be asked, or the engine isn't known to have `undo`. What asks nothing, and looks at what the engine took
-- at most, is always passed over. A start never is, except where no lesson begins after another one.
abbrev pub IsIdle : Turn → Question → Type 0
IsIdle turn (asked.Ask command) = ¬ IsAskable turn command
IsIdle turn (asked.Probe move) =
    (IsTaken turn move → ¬ (HasRoomFor turn.exam (play_of move) × (turn.exam.skills.undo ≡ Has)))
    × (¬ IsTaken turn move → ¬ IsAskable turn (play_of move))
IsIdle turn (asked.Size size) = Unit {0}
IsIdle turn (asked.Found size) = Unit {0}
IsIdle turn asked.Nothing = Unit {0}
IsIdle turn asked.Fresh = is_later turn.old.place ≡ false
IsIdle turn asked.Restart = ⊥
IsIdle turn asked.Kill = ⊥

-- The step is over once its command was asked, or it was passed over. (A probe of a legal move that was asked isn't
-- over: its `undo` comes. Each move is legal or isn't. What looks at the size that the engine took may end the part.)
abbrev pub IsDone : Turn → Question → Type 0
IsDone turn (asked.Ask command) = (turn.action ≡ Ask command) ⊎ (turn.action ≡ Skip)
IsDone turn (asked.Probe move) =
    (turn.action ≡ Ask (play_of move)) × (¬ IsTaken turn move)
    ⊎ (turn.action ≡ Skip) × (IsTaken turn move ⊎ (¬ IsTaken turn move))
IsDone turn asked.Nothing = turn.action ≡ Skip
IsDone turn (asked.Size size) = ⊥
IsDone turn (asked.Found size) = ⊥
IsDone turn asked.Fresh = turn.action ≡ Skip
IsDone turn asked.Restart = ⊥
IsDone turn asked.Kill = ⊥

-- The place of the course after the turn is the next one: the next step of the stretch, if it has another one; else the
-- first step of the next stretch, if the part has another one. Until then the part stays.
pub record GoesOneOn (turn : Turn) (stretch : Stretch) : Type 0 where
  pub next_step : turn.old.place.step + 1 < steps_of stretch
      → (turn.new.place.stretch ≡ turn.old.place.stretch) × (turn.new.place.step ≡ turn.old.place.step + 1)
  pub next_stretch : steps_of stretch ≤ turn.old.place.step + 1
      → turn.old.place.stretch + 1 < length (stretches_of turn.lesson turn.old.place.part)
      → (turn.new.place.stretch ≡ turn.old.place.stretch + 1) × (turn.new.place.step ≡ 0)
  pub same_part : turn.old.place.stretch + 1 < length (stretches_of turn.lesson turn.old.place.part)
      → (turn.new.place.lesson ≡ turn.old.place.lesson) × (turn.new.place.part ≡ turn.old.place.part)

-- A step that asks a command asks it, wherever it may be asked and isn't left out. One that probes a point asks a
-- `play` there: of a legal move only of an engine that has `undo`, and that is due next. A step is passed over only for
-- such a reason. And once a step is over that was passed over, or whose command or probe was asked and needs no `undo`,
-- the course goes one step on within its part.
pub record EachQuestionIsAsked : Type 0 where
  pub asks : (turn : Turn) (command : CheckCommand) → IsTurnOf turn (asked.Ask command) → IsAskable turn command
      → turn.action ≡ Ask command
  pub probes : (turn : Turn) (move : Move) → IsTurnOf turn (asked.Probe move) → ¬ IsTaken turn move
      → IsAskable turn (play_of move) → turn.action ≡ Ask (play_of move)
  pub tries : (turn : Turn) (move : Move) → IsTurnOf turn (asked.Probe move) → IsTaken turn move
      → HasRoomFor turn.exam (play_of move) → turn.exam.skills.undo ≡ Has
      → (turn.action ≡ Ask (play_of move)) × (turn.new.place.undoing ≡ true)
  pub undoes : (turn : Turn) → IsTurn turn.lesson turn.old turn.exam turn.action turn.new
      → opening_next turn.old.opening ≡ None → turn.old.place.undoing ≡ true → IsAskable turn (Match command.Undo)
      → turn.action ≡ Ask (Match command.Undo)
  pub passes : (turn : Turn) (question : Question) → IsTurnOf turn question → turn.action ≡ Skip
      → IsIdle turn question
  pub goes_on : (turn : Turn) (question : Question) (stretch : Stretch) → IsTurnOf turn question
      → IsDone turn question
      → slice_get (stretches_of turn.lesson turn.old.place.part) turn.old.place.stretch ≡ Some stretch
      → GoesOneOn turn stretch
