-- A course: its lessons, where it is in them, and what a call of it is.
use Rattle.std.specs.Prelude.{◌≡◌, ℕ, ◌+◌, ◌<◌, ◌≤◌, min, nat_lt, ◌⊎◌, Bool, true, false, ◌&&◌, if◌then◌else◌}
use Rattle.std.specs.Prelude.{List, [], length, slice_get, Option, None}
use Rattle.go_base.specs.declared.moves.Move.{Move}
use Rattle.go_board.specs.Game.{GameRecord}
use Rattle.go_board.specs.Refusals.{RefusesVertex}
use Rattle.go_board.specs.declared.faults.PlayFault.{PlayFault}
use Rattle.go_board.specs.declared.faults.PlayFault.TheVariants.{Suicide as SuicideFault, Ko as KoFault}
use Rattle.gtp_wire.specs.declared.commands.Command.TheVariants as command
use Rattle.gtp_check_judge.specs.declared.asking.CheckCommand.{CheckCommand}
use Rattle.gtp_check_judge.specs.declared.asking.CheckCommand.TheVariants.{FinalScore, Match, PlayInFull}
use Rattle.gtp_check_judge.specs.declared.exam.Exam.{Exam}
use Rattle.gtp_check_judge.specs.Exam.{HasRoomFor}
use Rattle.gtp_check_course.specs.declared.lessons.Lesson.{Lesson}
use Rattle.gtp_check_course.specs.declared.places.Place.{Place}
use Rattle.gtp_check_course.specs.declared.unasked.Unasked.{Unasked}
use Rattle.gtp_check_course.specs.declared.openings.Opening.{Opening}
use Rattle.gtp_check_course.specs.declared.openings.Opening.TheVariants as opening
use Rattle.gtp_check_course.specs.declared.actions.Action.{Action}
use Rattle.gtp_check_course.specs.declared.actions.Action.TheVariants.{Start, Restart, Kill, Ask, Wait, Skip, Done}
use Rattle.gtp_check_course.specs.Places.{IsPlace, number, first_place, next_step, next_stretch, next_part}
use Rattle.gtp_check_course.specs.Places.{next_lesson}
use Rattle.gtp_check_course.specs.Openings.{opened}
use Rattle.gtp_check_course.specs.Stretches.{steps_if}
use Rattle.gtp_check_course.specs.Lessons.{parts_of, stretches_of}

-- The lessons of a course, where it is in them, and what of its opening the engine was asked since it was started. How
-- much was found in its lesson so far, and how often the engine was lost in it; the size of the boards of scenes, once
-- it is known; the seed of what is drawn; and what isn't asked.
pub record Course : Type 0 where
  pub lessons : List Lesson
  pub place : Place
  pub opening : Opening
  pub findings : ℕ
  pub losses : ℕ
  pub scene_size : Option ℕ
  pub seed : ℕ
  pub unasked : Unasked

-- before the first start
abbrev pub begun : List Lesson → Option ℕ → ℕ → Unasked → Course
begun lessons scene_size seed unasked = record {
  lessons = lessons;
  place = first_place;
  opening = opening.Name;
  findings = 0;
  losses = 0;
  scene_size = scene_size;
  seed = seed;
  unasked = unasked;
}

-- the place is one of the course, or the course is over
pub record IsIn (lessons : List Lesson) (now : Place) : Type 0 where
  pub place : IsPlace now
  pub lesson : now.lesson ≤ length lessons
  pub few : length lessons ≤ 15

abbrev pub IsOver : Course → Type 0
IsOver course = length course.lessons ≤ course.place.lesson

abbrev pub IsRunning : Course → Type 0
IsRunning course = course.place.lesson < length course.lessons

-- ---- what comes next

-- after so many findings in a lesson the next one begins
abbrev pub most_findings : ℕ
most_findings = 10

-- and after so many losses of the engine
abbrev pub most_losses : ℕ
most_losses = 3

-- one more was found in the lesson, which is a loss of the engine or isn't
abbrev pub with_finding : Bool → Course → Course
with_finding is_loss course = record course {
  findings = min (course.findings + 1) most_findings;
  losses = if is_loss then min (course.losses + 1) most_losses else course.losses;
}

-- whether another part of the lesson comes
abbrev pub has_next_part : Lesson → Course → Bool
has_next_part lesson course =
    nat_lt (course.place.part + 1) (parts_of lesson)
    && (nat_lt course.findings most_findings && nat_lt course.losses most_losses)

-- The part is over: its lesson's next one comes, or the next lesson, in which nothing was found yet.
abbrev pub part_over : Lesson → Course → Course
part_over lesson course =
    if has_next_part lesson course then record course { place = next_part course.place }
    else record course { place = next_lesson course.place; findings = 0; losses = 0 }

abbrev pub has_next_step : Lesson → Place → Bool
has_next_step lesson place =
    nat_lt (place.step + 1) (steps_if (slice_get (stretches_of lesson place.part) place.stretch))

-- The step is over: the next one of its stretch comes, or the next stretch, or the part is over too.
abbrev pub step_over : Lesson → Course → Course
step_over lesson course =
    if has_next_step lesson course.place then record course { place = next_step course.place }
    else if nat_lt (course.place.stretch + 1) (length (stretches_of lesson course.place.part))
    then record course { place = next_stretch course.place }
    else part_over lesson course

-- ---- how far it is

-- how far it is: the number of its place, and how much of the opening was asked
abbrev pub progress : Course → ℕ
progress course = number course.place + opened course.opening

-- the same lessons, with the same left out, further on
pub record GoesOn (old new : Course) : Type 0 where
  pub lessons : new.lessons ≡ old.lessons
  pub unasked : new.unasked ≡ old.unasked
  pub further : progress old < progress new

-- ---- what is left out

-- whether moves that are refused for this cause aren't asked
abbrev pub spares : Unasked → PlayFault → Bool
spares unasked SuicideFault = unasked.suicide
spares unasked KoFault = unasked.ko
spares unasked _ = false

-- the move isn't asked in this game, for the cause for which the rules refuse it
pub record IsSpared (unasked : Unasked) (game : GameRecord) (move : Move) : Type 0 where
  pub fault : PlayFault
  pub refuses : RefusesVertex game move.colour move.vertex fault
  pub spared : spares unasked fault ≡ true

-- A command is left out in this game: a `play` that isn't asked, however its colour is written, or a score, where scores
-- aren't asked. (Rule sets differ in what is suicide and ko, and a score is an opinion.)
abbrev pub IsLeftOut : Unasked → GameRecord → CheckCommand → Type 0
IsLeftOut unasked game (Match (command.Play move)) = IsSpared unasked game move
IsLeftOut unasked game (PlayInFull move) = IsSpared unasked game move
IsLeftOut unasked game FinalScore = unasked.score ≡ true
IsLeftOut unasked game _ = ⊥

-- ---- a call

-- What is to be done next, where the exam of the engine is this one. A command that is asked is one that may be asked,
-- and isn't left out.
-- The engine is waited for only while it owes an answer. What is done goes on with the course; only a start begins the
-- opening again, and waiting changes nothing.
abbrev pub GoesTo : Course → Exam → Action → Course → Type 0
GoesTo old exam Start new = (exam.up ≡ false) × (new ≡ record old { opening = opening.Name })
GoesTo old exam Restart new = (exam.unanswered ≡ []) × GoesOn old new
GoesTo old exam Kill new = (exam.unanswered ≡ []) × GoesOn old new
GoesTo old exam (Ask command) new =
    HasRoomFor exam command × ¬ IsLeftOut old.unasked exam.game command × GoesOn old new
GoesTo old exam Wait new = (0 < length exam.unanswered) × (new ≡ old)
GoesTo old exam Skip new = GoesOn old new
GoesTo old exam Done new = IsOver old × (new ≡ old)

-- The rest of a part is left. A course that is over stays so.
abbrev pub Leaves : Course → Course → Type 0
Leaves old new = IsOver old × (new ≡ old) ⊎ GoesOn old new
