-- What the program does, from its words to its end. (Own.)
use Rattle.std.specs.Prelude.{codes}
use Rattle.std.specs.Prelude.{◌≡◌, ◌⊎◌, ℕ, ◌==◌, Bool, true, false, List, [], ◌∷◌, length, drop, min, Option}
use Rattle.std.specs.Prelude.{Result, Ok, Err}
use Rattle.clap.specs.Words.{Text}
use Rattle.clap.specs.declared.error.kind.ErrorKind.{ErrorKind}
use Rattle.clap.specs.declared.error.kind.ErrorKind.TheVariants.{UnknownArgument}
use Rattle.byte_streams.specs.declared.calls.WriteOnce.{Ghosts as WriterGhosts}
use Rattle.byte_streams.specs.Writing.{BreaksAt, IsFlushed, WritesOrBreaks}
use Rattle.gtp_process.specs.declared.causes.Unstarted.{Unstarted}
use Rattle.gtp_process.specs.declared.starter.Process.{Ghosts}
use Rattle.gtp_process.specs.Endings.{IsEnded}
use Rattle.gtp_process.specs.Quitting.{QuitsIfAny}
use Rattle.gtp_process.specs.Shown.{unstarted_text}
use Rattle.gtp_process.specs.Starts.{Attempts}
use Rattle.cli.specs.Requests.{Outputs, Shows, outputs, writers}
use Rattle.cli.specs.Status.{IsRequest, error_line, own_failure, usage_failure}
use Rattle.cli.specs.declared.failure.Failure.{Failure}
use Rattle.cli.specs.declared.failure.Failure.TheVariants.{OutOfMemory, Write}
use Rattle.gtp_check_course.specs.declared.lessons.Lesson.{Lesson}
use Rattle.gtp_check_app.specs.declared.failure.Mistake.{Mistake}
use Rattle.cli.specs.declared.failure.PlanError.TheVariants.{BadWords}
use Rattle.gtp_check_app.specs.declared.options.Options.{Options}
use Rattle.gtp_check_course.specs.declared.plan.Plan.{Plan}
use Rattle.gtp_check_texts.specs.declared.summary.Ending.{Ending}
use Rattle.gtp_check_texts.specs.declared.summary.Over.{Over}
use Rattle.gtp_check_texts.specs.declared.summary.Over.TheVariants as over
use Rattle.gtp_check_app.specs.declared.streams.Streams.{Streams}
use Rattle.gtp_check_texts.specs.Listing.{list_lines}
use Rattle.gtp_check_app.specs.Misplaced.{has_words_after, misplaced_line}
use Rattle.gtp_check_app.specs.Options.{AsksFor, AsksForText, HasFault}
use Rattle.gtp_check_app.specs.Plans.{HasNoPlan, IsPlanOf}
use Rattle.gtp_check_app.specs.Progress.{IsShown, cleared}
use Rattle.gtp_check_app.specs.Status.{ReportsFailure, ReportsMistake, hint_line, is_earned, program_name}
use Rattle.gtp_check_app.specs.Status.{status_of}
use Rattle.gtp_check_texts.specs.Summary.{last_lines}
use Rattle.gtp_check_app.specs.Sequence.{Beginning, HasStopped, Known, Point, TurnsAreOver, beginning, first_point}
use Rattle.gtp_check_app.specs.Turns.{State, process_of}

-- ---- the end of a check

-- An engine that owes nothing is sent `quit` and ended; any other is ended at once.
abbrev pub IsClosedWhere : {P : Type 0} → Ghosts P → Bool → Option P → Type 0
IsClosedWhere known true process = QuitsIfAny known process
IsClosedWhere known false process = IsEnded known process

abbrev pub IsClosed : {P : Type 0} → Ghosts P → State P → Type 0
IsClosed known last = IsClosedWhere known (length last.check.exam.unanswered == 0) (process_of last.engine)

-- The lessons that were to be asked and were not, or not to their end, where the course is in this one. One that was
-- left after many findings or losses is none of these.
abbrev pub missed_from : Plan → ℕ → List Lesson
missed_from plan lesson = drop (min lesson (length plan.lessons.items)) plan.lessons.items

-- the status of a check that is over so
abbrev pub status_in : {P : Type 0} → Plan → State P → ℕ
status_in plan last = status_of last.tally.complaints
    (is_earned plan.lessons.items (missed_from plan last.course.place.lesson) last.notes.answered.items)

-- What the last lines say of a check that is over for this reason: the lessons from the one on in which the course is,
-- what isn't shown, the starts, the complaints, and the moves that weren't judged.
pub record IsEnding {P : Type 0} (plan : Plan) (last : State P) (why : Over) (ending : Ending) : Type 0 where
  pub over : ending.over.now ≡ why
  pub missed : ending.missed.now ≡ missed_from plan last.course.place.lesson
  pub hidden : ending.hidden.now ≡ last.tally.hidden
  pub starts : ending.starts ≡ last.check.starts
  pub complaints : ending.complaints ≡ last.tally.complaints
  pub unjudged : ending.unjudged ≡ last.tally.unjudged

-- the last lines of a check
pub record AreLastLines {P : Type 0} (plan : Plan) (last : State P) (why : Over) (text : List ℕ) : Type 0 where
  pub ending : Ending
  pub is : IsEnding plan last why ending
  pub text_is : text ≡ last_lines plan last.notes ending

-- ---- a check

-- a check is over since the engine wasn't started at the first try, for this cause
pub record IsFirstFailure (why : Over) (starts : ℕ) (start : Unstarted) : Type 0 where
  pub not_started : why ≡ over.NotStarted start
  pub first : starts ≡ 0

module _ {P O E : Type 0} (known : Known P O E) (begins : Beginning P O E) where
  -- A check was held to its end, and the line of its progress is cleared. The last lines were flushed, and the status
  -- says whether something was found, and whether a pass is earned. Or the engine wasn't started at the first try:
  -- that is reported on standard error, and the status is that of a mistake.
  pub data IsHeld : ℕ → Attempts P → Streams O E → Type 0 where
    is_over : {why : Over} {last : Point P O E} {after : Streams O E} {text : List ℕ}
        → TurnsAreOver known begins.plan (first_point begins) why last
        → IsShown known.errs begins.plan.shows_progress (cleared ∷ []) last.streams.errors after.errors
        → ((start : Unstarted) → IsFirstFailure why last.now.state.check.starts start → ⊥)
        → IsClosed known.processes last.now.state → AreLastLines begins.plan last.now.state why text
        → IsFlushed known.outs text last.streams.output after.output
        → IsHeld (status_in begins.plan last.now.state) last.now.asked after
    not_started : {why : Over} {start : Unstarted} {last : Point P O E} {sees reported : E}
        → TurnsAreOver known begins.plan (first_point begins) why last
        → IsShown known.errs begins.plan.shows_progress (cleared ∷ []) last.streams.errors sees
        → IsFirstFailure why last.now.state.check.starts start → IsClosed known.processes last.now.state
        → WritesOrBreaks known.errs (error_line (codes "gtp_check") (unstarted_text start)) sees reported
        → IsHeld usage_failure last.now.asked (record last.streams { errors = reported })

  -- A check stopped: in its turns; or at its last lines, for which memory was refused, or at which the output broke.
  -- Every process was ended, and the line of the progress is cleared.
  pub data IsStopped : Failure → Attempts P → Streams O E → Type 0 where
    in_turns : {process : Option P} {has : Attempts P} {between : Streams O E} {sees : E} {failure : Failure}
        → HasStopped known begins.plan (first_point begins) process has between failure
        → IsShown known.errs begins.plan.shows_progress (cleared ∷ []) between.errors sees
        → IsEnded known.processes process → IsStopped failure has (record between { errors = sees })
    refused_at_end : {why : Over} {last : Point P O E} {sees : E}
        → TurnsAreOver known begins.plan (first_point begins) why last
        → IsShown known.errs begins.plan.shows_progress (cleared ∷ []) last.streams.errors sees
        → IsClosed known.processes last.now.state
        → IsStopped OutOfMemory last.now.asked (record last.streams { errors = sees })
    broke_at_end : {why : Over} {last : Point P O E} {after : Streams O E} {text : List ℕ}
        → TurnsAreOver known begins.plan (first_point begins) why last
        → IsShown known.errs begins.plan.shows_progress (cleared ∷ []) last.streams.errors after.errors
        → IsClosed known.processes last.now.state → AreLastLines begins.plan last.now.state why text
        → BreaksAt known.outs text last.streams.output after.output
        → IsStopped Write last.now.asked after

  -- so a check ends
  abbrev pub Ends : Result ℕ Failure → Attempts P → Streams O E → Type 0
  Ends (Ok status) has after = IsHeld status has after
  Ends (Err failure) has after = IsStopped failure has after

-- ---- the words of the command line

-- the words have no mistake, and ask for this plan, where progress is shown or not, or for the list of lessons
pub record AsksForPlan (words : List Text) (shows_progress : Bool) (plan : Plan) : Type 0 where
  pub options : Options
  pub asked : AsksFor words options
  pub no_list : options.list ≡ false
  pub come_to : IsPlanOf options shows_progress plan

pub record AsksForList (words : List Text) : Type 0 where
  pub options : Options
  pub asked : AsksFor words options
  pub list : options.list ≡ true

-- The options that the words ask for come to no plan, by a mistake that is reported.
pub record AsksWrongly {E : Type 0} (errs : WriterGhosts E) (words : List Text) (before after : E) : Type 0 where
  pub options : Options
  pub asked : AsksFor words options
  pub what : Mistake
  pub mistake : HasNoPlan options (BadWords what)
  pub reported : ReportsMistake errs what before after

-- A hint is written on a word or an option that there isn't, as most of these belong to the engine's command.
pub record IsHinted {E : Type 0} (errs : WriterGhosts E) (kind : ErrorKind) (before after : E) : Type 0 where
  pub hint : kind ≡ UnknownArgument → WritesOrBreaks errs hint_line before after
  pub no_hint : (kind ≡ UnknownArgument → ⊥) → after ≡ before

-- The words have a mistake. One text is written, and where it is due the hint.
pub record IsRefusedByClap {E : Type 0} (errs : WriterGhosts E) (words : List Text) (before after : E) : Type 0 where
  pub kind : ErrorKind
  pub mistake : ¬ IsRequest kind
  pub has : HasFault words kind
  pub text : List ℕ
  pub between : E
  pub written : WritesOrBreaks errs text before between
  pub hinted : IsHinted errs kind between after

-- options follow on the engine's command, which is reported
pub record IsMisplaced {E : Type 0} (errs : WriterGhosts E) (words : List Text) (before after : E) : Type 0 where
  pub options : Options
  pub asked : AsksFor words options
  pub follow : has_words_after words ≡ true
  pub written : WritesOrBreaks errs (misplaced_line words) before after

-- the words have a mistake, or what they ask for has one
abbrev pub HasMistake : {E : Type 0} → WriterGhosts E → List Text → E → E → Type 0
HasMistake errs words before after =
    IsMisplaced errs words before after ⊎ IsRefusedByClap errs words before after ⊎ AsksWrongly errs words before after

-- ---- a run

-- what a run writes to
abbrev pub outputs_of : {O E : Type 0} → Streams O E → Outputs O E
outputs_of streams = outputs streams.output streams.errors

module _ {P O E : Type 0} (known : Known P O E) (words : List Text) (shows_progress : Bool) (asked : Attempts P)
    (streams : Streams O E) where
  -- What the program did, and with what status it ends. It held the check that the words ask for. Or that stopped, and
  -- why is reported. Or it showed the help, the version or the list of lessons. Or the words have a mistake, which is
  -- reported. Or memory was refused before anything was done. Only a check starts anything.
  pub data HasRun : ℕ → Attempts P → Streams O E → Type 0 where
    checked : {status : ℕ} {has : Attempts P} {after : Streams O E} (plan : Plan)
        → AsksForPlan words shows_progress plan → IsHeld known (beginning plan asked streams) status has after
        → HasRun status has after
    stopped : {has : Attempts P} {after : Streams O E} {reported : E} (plan : Plan) (failure : Failure)
        → AsksForPlan words shows_progress plan → IsStopped known (beginning plan asked streams) failure has after
        → ReportsFailure known.errs failure after.errors reported
        → HasRun own_failure has (record after { errors = reported })
    shown : {status : ℕ} {after : Streams O E} (text : List ℕ) → AsksForText words
        → Shows (writers known.outs known.errs) program_name text (outputs_of streams) status (outputs_of after)
        → HasRun status asked after
    listed : {status : ℕ} {after : Streams O E} → AsksForList words
        → Shows (writers known.outs known.errs) program_name list_lines (outputs_of streams) status (outputs_of after)
        → HasRun status asked after
    mistaken : {reported : E} → HasMistake known.errs words streams.errors reported
        → HasRun usage_failure asked (record streams { errors = reported })
    no_memory : {reported : E} → ReportsFailure known.errs OutOfMemory streams.errors reported
        → HasRun own_failure asked (record streams { errors = reported })
