-- What the options of a check come to. (Own.)
use Rattle.std.specs.Prelude.{◌≡◌, ◌≢◌, ℕ, ◌==◌, ◌&&◌, ◌||◌, not, Bool, true, false, List, [], Option, None, Some}
use Rattle.std.specs.Prelude.{map, filter, length, if◌then◌else◌}
use Rattle.std.specs.Borrow.{Bor}
use Rattle.clap.specs.Words.{Text}
use Rattle.go_base.specs.Size.{IsSize}
use Rattle.gtp_check_course.specs.Lessons.{all_lessons}
use Rattle.gtp_check_course.specs.declared.lessons.Lesson.{Lesson}
use Rattle.gtp_check_course.specs.declared.lessons.Lesson.TheVariants.{Start, Placed, Errors, Sizes, Ko, Captures, Suicide, Joining}
use Rattle.gtp_check_course.specs.declared.lessons.Lesson.TheVariants.{Handicaps, Komi, Drawn, Record, Genmoves}
use Rattle.gtp_check_course.specs.declared.lessons.Lesson.TheVariants.{Games}
use Rattle.gtp_check_course.specs.declared.lessons.Lesson.TheVariants.{Restarts}
use Rattle.gtp_wire.specs.Words.{words}
use Rattle.gtp_check_app.specs.declared.failure.Mistake.{Mistake}
use Rattle.gtp_check_app.specs.declared.failure.Mistake.TheVariants.{NoCommand, NoLesson}
use Rattle.cli.specs.declared.failure.PlanError.{PlanError}
use Rattle.cli.specs.declared.failure.PlanError.TheVariants.{BadWords, OutOfMemory}
use Rattle.gtp_check_talk.specs.Among.{is_among}
use Rattle.gtp_check_app.specs.declared.options.Options.{Options}
use Rattle.gtp_check_course.specs.declared.plan.Plan.{Plan}
use Rattle.gtp_process.specs.declared.patience.Limits.{Limits}

-- the command of an engine: the words of its text, which is split at spaces
abbrev pub IsCommand : Text → List (Bor Text) → Type 0
IsCommand text command = map (λ word. word.now) command ≡ words text

-- the size of the boards of scenes: that of the number, where it is one
pub record IsSceneSize (number : ℕ) (size : Option ℕ) : Type 0 where
  pub given : IsSize number → size ≡ Some number
  pub none : ¬ IsSize number → size ≡ None

-- ---- the lessons

-- the lesson is one of those of `--quick`: all up to the scenes
abbrev pub is_quick : Lesson → Bool
is_quick Start = true
is_quick Placed = true
is_quick Errors = true
is_quick Sizes = true
is_quick Ko = true
is_quick Captures = true
is_quick Suicide = true
is_quick Joining = true
is_quick Handicaps = false
is_quick Komi = false
is_quick Drawn = false
is_quick Record = false
is_quick Genmoves = false
is_quick Games = false
is_quick Restarts = false

-- The options ask for the lesson: it is one of those of `--only`, where there are any, none of `--skip`, and under
-- `--quick` one of those.
abbrev pub is_chosen : Options → Lesson → Bool
is_chosen options lesson =
    (length options.only.items == 0 || is_among options.only.items lesson)
    && (not (is_among options.skip.items lesson) && (not options.quick || is_quick lesson))

-- ---- the plan

-- what the options come to, where progress is shown or not
pub record IsPlanOf (options : Options) (shows_progress : Bool) (plan : Plan) : Type 0 where
  pub command : IsCommand options.command.now plan.words.items
  pub has_words : words options.command.now ≢ []
  pub scene_size : IsSceneSize options.size plan.scene_size
  pub rule : plan.rule ≡ options.rule
  pub unasked : plan.unasked ≡ options.unasked
  pub seed : plan.seed ≡ options.seed
  pub lessons : plan.lessons.items ≡ filter (is_chosen options) all_lessons
  pub has_lessons : plan.lessons.items ≢ []
  pub left_out : plan.left_out.items ≡ filter (λ lesson. not (is_chosen options lesson)) all_lessons
  pub singly : plan.singly ≡ options.singly
  pub restarts : plan.restarts ≡ (if options.stop_at_first then 0 else options.restarts)
  pub trials : plan.trials ≡ options.trials
  pub progress : plan.shows_progress ≡ shows_progress

-- Why the options come to no plan: the command has no word; or it has, and no lesson is left; or memory was refused.
abbrev pub HasNoPlan : Options → PlanError Mistake → Type 0
HasNoPlan options (BadWords NoCommand) = words options.command.now ≡ []
HasNoPlan options (BadWords NoLesson) =
    (words options.command.now ≢ []) × (filter (is_chosen options) all_lessons ≡ [])
HasNoPlan options OutOfMemory = Unit {0}

-- ---- the limits

-- a limit of so many seconds, where they are given
abbrev pub limit_of : ℕ → Option ℕ
limit_of seconds = if seconds == 0 then None else Some seconds

-- the limit of the first answer after a start: its own, where it is given, and else that of all
abbrev pub first_limit : ℕ → ℕ → Option ℕ
first_limit start all = if start == 0 then limit_of all else Some start

abbrev pub limits_of : Options → Limits
limits_of options = record {
  first = first_limit options.start_timeout options.timeout;
  later = limit_of options.timeout;
}
