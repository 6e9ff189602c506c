-- What the functions of one turn do.
use Rattle.std.specs.Prelude.{◌≡◌, ◌⊎◌, ℕ, ◌<◌, Bool, true, false, List, [], ◌∷◌, ◌++◌, length, Option, None, Some}
use Rattle.std.specs.Prelude.{IsSome}
use Rattle.std.specs.Prelude.{Ok, Err}
use Rattle.byte_streams.specs.Writing.{BreaksAt, AreFlushed}
use Rattle.gtp_process.specs.declared.starter.Process.{Ghosts}
use Rattle.gtp_process.specs.declared.starter.StartFault.TheVariants as start_fault
use Rattle.gtp_process.specs.Quitting.{QuitsIfAny}
use Rattle.gtp_process.specs.Starts.{Attempts, Tries, program_line}
use Rattle.gtp_check_judge.specs.declared.exam.Exam.{Exam}
use Rattle.gtp_check_judge.specs.Check.{started}
use Rattle.gtp_check_course.specs.declared.actions.Action.{Action}
use Rattle.gtp_check_course.specs.declared.actions.Action.TheVariants as action
use Rattle.gtp_check_course.specs.Course.{Course}
use Rattle.gtp_check_app.specs.declared.check.Next.{Next}
use Rattle.gtp_check_app.specs.declared.streams.Streams.{Streams}
use Rattle.gtp_check_app.specs.declared.check.Next.TheVariants.{Exchange, Kill, Over, Restart, Start}
use Rattle.gtp_check_talk.specs.declared.engine.Engine.{Engine}
use Rattle.gtp_check_talk.specs.declared.fault.Fault.{Fault}
use Rattle.cli.specs.declared.failure.Failure.{Failure}
use Rattle.cli.specs.declared.failure.Failure.TheVariants.{OutOfMemory, Write}
use Rattle.gtp_check_talk.specs.declared.notes.Notes.{Notes}
use Rattle.gtp_check_course.specs.declared.plan.Plan.{Plan}
use Rattle.gtp_check_texts.specs.declared.summary.Over.{Over as WhyOver}
use Rattle.gtp_check_talk.specs.Dialogues.{AsksForMore, Wrong, begun_with, dialogue}
use Rattle.gtp_check_talk.specs.Notes.{started as noted_start}
use Rattle.gtp_check_app.specs.Progress.{IsShown, cleared, clearing, looking, looking_line}
use Rattle.gtp_check_app.specs.Tally.{started_again}
use Rattle.gtp_check_app.specs.Sequence.{Known, Point, StopsIn, point}
use Rattle.gtp_check_app.specs.Turns.{Asks, Closes, Complains, IsNext, IsOverBy, MayStart, Moment, State, WritesFirst}
use Rattle.gtp_check_app.specs.Turns.{moment, most_unanswered_starts}
use Rattle.gtp_check_app.specs.Unjudged.{is_blamed}
use Rattle.gtp_check_app.specs.Turns.{Exchanges, IsOver, Turn, process_of, state, waiting}

-- an engine that is up is there
abbrev pub IsPaired : {P : Type 0} → State P → Type 0
IsPaired now = now.check.exam.up ≡ true → IsSome now.engine

-- the course does this next, after steps of it
pub record Goes {P : Type 0} (singly : Bool) (before : State P) (action : Action) (after : State P) : Type 0 where
  pub mid : State P
  pub asks : Asks singly before mid
  pub course : Course
  pub next : IsNext mid.course mid.check.exam action course
  pub leads : after ≡ record mid { course = course }

-- what comes next, after steps of the course
abbrev pub Gathers : {P : Type 0} → Bool → State P → Next → State P → Type 0
Gathers singly before Start after = Goes singly before action.Start after
Gathers singly before Restart after = Goes singly before action.Restart after
Gathers singly before Kill after = Goes singly before action.Kill after
Gathers singly before Exchange after = Asks singly before after × IsSome after.engine
Gathers singly before Over after =
    Goes singly before action.Done after
    × ((after.check.exam.up ≡ false) ⊎ (length after.check.exam.unanswered ≡ 0))

-- memory was refused for a start
pub record IsRefused {P : Type 0} (plan : Plan) (before : Moment P) (failure : Failure) (after : Moment P)
    : Type 0 where
  pub failed : failure ≡ OutOfMemory
  pub asked : Tries before.asked after.asked (program_line plan.words.items) (Err start_fault.OutOfMemory)
  pub same : after.state ≡ before.state

-- an engine was started, or the check is over
pub data Begins {P : Type 0} (known : Ghosts P) (plan : Plan) (before : Moment P)
    : Option WhyOver → Moment P → Type 0 where
  begins : {has : Attempts P} {engine : Engine P} (process : P)
      → before.state.notes.unanswered_starts < most_unanswered_starts → MayStart before.state.check before.state.tally
      → Tries before.asked has (program_line plan.words.items) (Ok process)
      → QuitsIfAny known (process_of before.state.engine)
      → ((exam : Exam) (notes : Notes) → dialogue engine exam notes ≡ begun_with exam process notes)
      → Begins known plan before None (moment
      (state (started before.state.check) before.state.course (Some engine) (started_again before.state.tally)
      (noted_start before.state.notes)) has)
  is_over : {why : WhyOver} {has : Attempts P} → IsOverBy known plan before action.Start why has
      → Begins known plan before (Some why) (moment before.state has)

module _ {P O E : Type 0} (known : Known P O E) (plan : Plan) where
  -- the first line was written where it is due
  pub data FirstIsFlushed (before : State P) (is_wrong : Bool) (old : Streams O E)
      : State P → Streams O E → Type 0 where
    first_flushed : {after : State P} {new : Streams O E} (line : List (List ℕ))
        → WritesFirst known.processes plan before is_wrong after line
        → AreFlushed known.outs line old.output new.output
        → IsShown known.errs plan.shows_progress (clearing line) old.errors new.errors
        → FirstIsFlushed before is_wrong old after new

  -- it wasn't: the output broke at it, or memory was refused
  pub data FirstStops (before : State P) (is_wrong : Bool) (old : Streams O E)
      : State P → Streams O E → Failure → Type 0 where
    first_broke : {next after : State P} {new : Streams O E} {line : List ℕ}
        → WritesFirst known.processes plan before is_wrong next (line ∷ [])
        → BreaksAt known.outs line old.output new.output
        → IsShown known.errs plan.shows_progress (cleared ∷ []) old.errors new.errors
        → process_of after.engine ≡ process_of before.engine
        → FirstStops before is_wrong old after new Write
    first_refused : {after : State P} {new : Streams O E} → new ≡ old
        → process_of after.engine ≡ process_of before.engine
        → FirstStops before is_wrong old after new OutOfMemory

  -- what is due of a complaint was written
  pub record ComplaintIsFlushed (before : Point P O E) (fault : Fault) (after : Point P O E) : Type 0 where
    pub said : List (List ℕ)
    pub complains : Complains known.processes plan before.now (Some fault) after.now said
    pub flushed : AreFlushed known.outs said before.streams.output after.streams.output
    pub shown : IsShown known.errs plan.shows_progress (looking said) before.streams.errors after.streams.errors

  -- it wasn't: the output broke at it, or memory was refused
  pub data ComplaintStops (before : Point P O E) (fault : Fault) (after : Point P O E) : Failure → Type 0 where
    complaint_broke : {next : State P} {text : List ℕ}
        → Complains known.processes plan before.now (Some fault) (moment next after.now.asked) (text ∷ [])
        → BreaksAt known.outs text before.streams.output after.streams.output
        → IsShown known.errs plan.shows_progress (looking (text ∷ [])) before.streams.errors after.streams.errors
        → after.now.state.engine ≡ None
        → ComplaintStops before fault after Write
    complaint_refused : {closed : State P} {wrong : Wrong}
        → Closes known.processes fault before.now.state wrong closed
        → AsksForMore (program_line plan.words.items) before.now.asked after.now.asked
        → after.streams.output ≡ before.streams.output
        → IsShown known.errs plan.shows_progress (looking_line ∷ []) before.streams.errors after.streams.errors
        → after.now.state.engine ≡ None
        → ComplaintStops before fault after OutOfMemory

  -- a turn was taken, or the check is over
  abbrev pub EndsTurn : Point P O E → Option WhyOver → Point P O E → Type 0
  EndsTurn before None after =
      (texts shows : List (List ℕ)) × Turn known.processes plan before.now after.now texts shows
      × AreFlushed known.outs texts before.streams.output after.streams.output
      × IsShown known.errs plan.shows_progress shows before.streams.errors after.streams.errors
  EndsTurn before (Some why) after =
      IsOver known.processes plan before.now why after.now × (after.streams ≡ before.streams)

  -- what is due after an exchange was written
  pub record Settles (before : Point P O E) (fault : Option Fault) (after : Point P O E) : Type 0 where
    pub next : State P
    pub line : List (List ℕ)
    pub said : List (List ℕ)
    pub first : WritesFirst known.processes plan before.now.state (is_blamed plan.unasked fault) next line
    pub complains : Complains known.processes plan (moment next before.now.asked) fault after.now said
    pub flushed : AreFlushed known.outs (line ++ said) before.streams.output after.streams.output
    pub shown : IsShown known.errs plan.shows_progress (clearing line ++ looking said)
        before.streams.errors after.streams.errors

  -- it wasn't: a turn with this exchange stopped so, of which the progress of what was waited for was written before
  pub data StopsAfter (mid : Point P O E) (fault : Option Fault)
      : Option P → Attempts P → Streams O E → Failure → Type 0 where
    stops_after : {process : Option P} {has : Attempts P} {after : Streams O E} {why : Failure}
        → ((before : State P) (errors : E) (heard : Exchanges known.processes plan before fault mid.now.state)
        → IsShown known.errs plan.shows_progress (waiting plan heard.mid) errors mid.streams.errors
        → StopsIn known plan (point before mid.now.asked (record mid.streams { errors = errors })) process has after
        why)
        → StopsAfter mid fault process has after why
