-- What a step of a course asks, and when it asks nothing.
use Rattle.std.specs.Prelude.{◌≡◌, ◌≢◌, ℕ, ◌<◌, nat_lt, ◌==◌, ◌&&◌, ◌⊎◌, Bool, true, false, [], length, slice_get}
use Rattle.std.specs.Prelude.{Option, None, Some}
use Rattle.go_board.specs.Game.{GameRecord, IsLegal}
use Rattle.go_base.specs.declared.moves.Move.{Move}
use Rattle.gtp_wire.specs.declared.commands.Command.TheVariants as command
use Rattle.gtp_check_judge.specs.declared.asking.CheckCommand.{CheckCommand}
use Rattle.gtp_check_judge.specs.declared.asking.CheckCommand.TheVariants.{Match}
use Rattle.gtp_check_judge.specs.declared.exam.Exam.{Exam}
use Rattle.gtp_check_judge.specs.declared.setups.Board.TheVariants.{Unknown}
use Rattle.gtp_check_judge.specs.declared.skills.Skill.TheVariants.{Has}
use Rattle.gtp_check_judge.specs.Exam.{HasRoomFor}
use Rattle.gtp_check_course.specs.declared.actions.Action.{Action}
use Rattle.gtp_check_course.specs.declared.actions.Action.TheVariants.{Start, Restart, Kill, Ask, Wait, Skip, Done}
use Rattle.gtp_check_course.specs.declared.actions.Question.{Question}
use Rattle.gtp_check_course.specs.declared.actions.Question.TheVariants as asked
use Rattle.gtp_check_course.specs.declared.boards.Board.{Board}
use Rattle.gtp_check_course.specs.declared.draws.Draws.{Draws}
use Rattle.gtp_check_course.specs.declared.lessons.Lesson.{Lesson}
use Rattle.gtp_check_course.specs.declared.openings.Opening.{Opening}
use Rattle.gtp_check_course.specs.declared.places.Place.{Place}
use Rattle.gtp_check_course.specs.declared.stretches.Stretch.{Stretch}
use Rattle.gtp_check_course.specs.Boards.{IsBoard}
use Rattle.gtp_check_course.specs.Lessons.{number_of, stretches_of}
use Rattle.gtp_check_course.specs.Openings.{opening_next}
use Rattle.gtp_check_course.specs.Places.{number, undo_place}
use Rattle.gtp_check_course.specs.Questions.{IsQuestion}
use Rattle.gtp_check_course.specs.Course.{Course, IsLeftOut, part_over, step_over}

-- what the step draws in which the course is: by its seed, and by the step's number among all lessons
abbrev pub draws_of : Lesson → Course → Draws
draws_of lesson course =
    record { seed = course.seed; number = number (record course.place { lesson = number_of lesson }) }

-- what a step of this stretch is, if there is one
abbrev pub IsStepOf : Lesson → Course → GameRecord → Option Stretch → Question → Type 0
IsStepOf lesson course game None question = question ≡ asked.Nothing
IsStepOf lesson course game (Some stretch) question =
    (board : Board) × IsBoard lesson course.place.part course.scene_size board
    × IsQuestion stretch (record { number = course.place.step; draws = draws_of lesson course }) board game question

-- what the step is in which the course is
abbrev pub IsStep : Lesson → Course → GameRecord → Question → Type 0
IsStep lesson course game question =
    IsStepOf lesson course game (slice_get (stretches_of lesson course.place.part) course.place.stretch) question

abbrev pub undo : CheckCommand
undo = Match command.Undo

-- the lesson in which the course is, if it isn't over
abbrev pub lesson_of : Course → Option Lesson
lesson_of course = slice_get course.lessons course.place.lesson

-- ---- what comes of a step

-- a call of `next` in this lesson: the course before it, and the exam of the engine
pub record Call : Type 0 where
  pub lesson : Lesson
  pub course : Course
  pub exam : Exam

abbrev pub call : Lesson → Course → Exam → Call
call lesson course exam = record { lesson = lesson; course = course; exam = exam }

-- the course once the step of a call is over
abbrev pub after_step : Call → Course
after_step now = step_over now.lesson now.course

-- The engine is ended and started again, once it owes no answer: the step is over.
abbrev pub Renews : Lesson → Course → Exam → Action → Course → Type 0
Renews lesson old exam Wait new = (0 < length exam.unanswered) × (new ≡ old)
Renews lesson old exam Restart new = (exam.unanswered ≡ []) × (new ≡ step_over lesson old)
Renews lesson old exam Kill new = ⊥
Renews lesson old exam Start new = ⊥
Renews lesson old exam (Ask command) new = ⊥
Renews lesson old exam Skip new = ⊥
Renews lesson old exam Done new = ⊥

-- The same without a `quit`.
abbrev pub Kills : Lesson → Course → Exam → Action → Course → Type 0
Kills lesson old exam Wait new = (0 < length exam.unanswered) × (new ≡ old)
Kills lesson old exam Kill new = (exam.unanswered ≡ []) × (new ≡ step_over lesson old)
Kills lesson old exam Restart new = ⊥
Kills lesson old exam Start new = ⊥
Kills lesson old exam (Ask command) new = ⊥
Kills lesson old exam Skip new = ⊥
Kills lesson old exam Done new = ⊥

-- the place is in the first part of a lesson that comes after another one
abbrev pub is_later : Place → Bool
is_later place = nat_lt 0 place.lesson && place.part == 0

-- Where a lesson begins after another one, the engine is started again; elsewhere the step is passed over.
abbrev pub Freshens : Call → Action → Course → Type 0
Freshens now action new =
    (is_later now.course.place ≡ true → Renews now.lesson now.course now.exam action new)
    × (is_later now.course.place ≡ false → (action ≡ Skip) × (new ≡ after_step now))

-- A command of the opening is asked, and the place stays. It can't be asked only where no more ids are left.
abbrev pub Opens : Call → CheckCommand → Opening → Action → Course → Type 0
Opens now command after (Ask asked) new =
    (asked ≡ command) × HasRoomFor now.exam command × (new ≡ record now.course { opening = after })
Opens now command after Wait new =
    (0 < length now.exam.unanswered) × (HasRoomFor now.exam command → ⊥) × (new ≡ now.course)
Opens now command after Restart new =
    (now.exam.unanswered ≡ []) × (HasRoomFor now.exam command → ⊥) × (new ≡ after_step now)
Opens now command after Kill new = ⊥
Opens now command after Start new = ⊥
Opens now command after Skip new = ⊥
Opens now command after Done new = ⊥

-- the command isn't left out in the game
abbrev pub IsWanted : Call → CheckCommand → Type 0
IsWanted now command = ¬ IsLeftOut now.course.unasked now.exam.game command

-- A command is asked, and the step is over. Where it may not be asked, what the engine owes is waited for. Where it
-- owes nothing, the command may not be asked in this game, and the step is passed over. So it is where the command may
-- be asked, and is left out.
abbrev pub Poses : Call → CheckCommand → Action → Course → Type 0
Poses now command (Ask asked) new =
    (asked ≡ command) × HasRoomFor now.exam command × IsWanted now command × (new ≡ after_step now)
Poses now command Wait new =
    (0 < length now.exam.unanswered) × (HasRoomFor now.exam command → ⊥) × (new ≡ now.course)
Poses now command Skip new =
    (new ≡ after_step now)
    × ((now.exam.unanswered ≡ []) × (HasRoomFor now.exam command → ⊥)
    ⊎ HasRoomFor now.exam command × IsLeftOut now.course.unasked now.exam.game command)
Poses now command Start new = ⊥
Poses now command Restart new = ⊥
Poses now command Kill new = ⊥
Poses now command Done new = ⊥

-- A move that is legal is asked only of an engine that can take it back, and it is asked to do so next. Else what it
-- owes is waited for, and the step is passed over.
abbrev pub Tries : Call → Move → Action → Course → Type 0
Tries now made (Ask asked) new =
    (asked ≡ Match (command.Play made)) × HasRoomFor now.exam asked × (now.exam.skills.undo ≡ Has)
    × (new ≡ record now.course { place = undo_place now.course.place })
Tries now made Wait new =
    (0 < length now.exam.unanswered) × (new ≡ now.course)
    × (HasRoomFor now.exam (Match (command.Play made)) → now.exam.skills.undo ≢ Has)
Tries now made Skip new =
    (now.exam.unanswered ≡ []) × (new ≡ after_step now)
    × (HasRoomFor now.exam (Match (command.Play made)) → now.exam.skills.undo ≢ Has)
Tries now made Start new = ⊥
Tries now made Restart new = ⊥
Tries now made Kill new = ⊥
Tries now made Done new = ⊥

-- A move on any point is asked: where it isn't legal, like any command.
pub record Probes (now : Call) (made : Move) (action : Action) (new : Course) : Type 0 where
  pub tries : IsLegal now.exam.game made.colour made.vertex → Tries now made action new
  pub poses : ¬ IsLegal now.exam.game made.colour made.vertex → Poses now (Match (command.Play made)) action new

-- The engine's board has this size, and it took one since it was started.
pub record HasTaken (exam : Exam) (size : ℕ) : Type 0 where
  pub known : exam.board ≢ Unknown
  pub has_size : exam.game.size ≡ size

-- Whether the engine took a size is seen. Where it refused it, the part is over.
abbrev pub Sees : Call → ℕ → Action → Course → Type 0
Sees now size Skip new =
    (HasTaken now.exam size → new ≡ after_step now)
    × (¬ HasTaken now.exam size → new ≡ part_over now.lesson now.course)
Sees now size (Ask command) new = ⊥
Sees now size Wait new = ⊥
Sees now size Start new = ⊥
Sees now size Restart new = ⊥
Sees now size Kill new = ⊥
Sees now size Done new = ⊥

-- Whether the engine took a size is seen. Where it did, that is the size of scenes.
abbrev pub Finds : Call → ℕ → Action → Course → Type 0
Finds now size Skip new =
    (HasTaken now.exam size → new ≡ step_over now.lesson (record now.course { scene_size = Some size }))
    × (¬ HasTaken now.exam size → new ≡ after_step now)
Finds now size (Ask command) new = ⊥
Finds now size Wait new = ⊥
Finds now size Start new = ⊥
Finds now size Restart new = ⊥
Finds now size Kill new = ⊥
Finds now size Done new = ⊥

-- what comes of a question
abbrev pub Takes : Call → Question → Action → Course → Type 0
Takes now (asked.Ask command) action new = Poses now command action new
Takes now (asked.Probe made) action new = Probes now made action new
Takes now (asked.Size size) action new = Sees now size action new
Takes now (asked.Found size) action new = Finds now size action new
Takes now asked.Fresh action new = Freshens now action new
Takes now asked.Restart action new = Renews now.lesson now.course now.exam action new
Takes now asked.Kill action new = Kills now.lesson now.course now.exam action new
Takes now asked.Nothing action new = (action ≡ Skip) × (new ≡ after_step now)

-- What comes next in a lesson, of an engine that may be asked something: first the opening, then the `undo` of a move
-- that was asked, and else what the step is.
pub record IsTurn (lesson : Lesson) (old : Course) (exam : Exam) (action : Action) (new : Course) : Type 0 where
  pub opens : (command : CheckCommand) (after : Opening) → opening_next old.opening ≡ Some (command, after)
      → Opens (call lesson old exam) command after action new
  pub undoes : opening_next old.opening ≡ None → old.place.undoing ≡ true → Poses (call lesson old exam) undo action new
  pub asks : opening_next old.opening ≡ None → old.place.undoing ≡ false
      → (question : Question) × IsStep lesson old exam.game question × Takes (call lesson old exam) question action new
