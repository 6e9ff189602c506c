-- The turns of a check, one after another, and what it writes to. (Own.)
use Rattle.std.specs.Prelude.{ℕ, ◌+◌, true, List, [], ◌∷◌, ◌++◌, Option, None, Some, Err}
use Rattle.byte_streams.specs.declared.calls.WriteOnce.{Ghosts as WriterGhosts}
use Rattle.byte_streams.specs.Writing.{BreaksAt, AreFlushed}
use Rattle.gtp_process.specs.declared.starter.Process.{Ghosts}
use Rattle.gtp_process.specs.declared.starter.StartFault.TheVariants as start_fault
use Rattle.gtp_process.specs.Starts.{Attempts, Tries, program_line}
use Rattle.cli.specs.declared.failure.Failure.{Failure}
use Rattle.cli.specs.declared.failure.Failure.TheVariants.{OutOfMemory, TooManyTurns, Write}
use Rattle.gtp_check_course.specs.declared.actions.Action.TheVariants.{Start}
use Rattle.gtp_check_course.specs.Course.{Course}
use Rattle.gtp_check_talk.specs.declared.fault.Fault.{Fault}
use Rattle.gtp_check_talk.specs.Dialogues.{AsksForMore, Wrong}
use Rattle.gtp_check_course.specs.declared.plan.Plan.{Plan}
use Rattle.gtp_check_texts.specs.declared.summary.Over.{Over}
use Rattle.gtp_check_app.specs.declared.streams.Streams.{Streams}
use Rattle.gtp_check_app.specs.Progress.{IsShown, cleared, clearing, looking, looking_line}
use Rattle.gtp_check_app.specs.Turns.{Asks, Closes, Complains, Exchanges, IsNext, IsOver, Moment, State, Turn}
use Rattle.gtp_check_app.specs.Turns.{WritesFirst, before_all, moment, most_turns, process_of, waiting}
use Rattle.gtp_check_app.specs.Unjudged.{is_blamed}

-- A check between two turns, and what it writes to as that is then.
pub record Point (P O E : Type 0) : Type 0 where
  pub now : Moment P
  pub streams : Streams O E

abbrev pub point : {P O E : Type 0} → State P → Attempts P → Streams O E → Point P O E
point now asked streams = record { now = moment now asked; streams = streams }

-- what is known of processes, of an output, and of standard error
pub record Known (P O E : Type 0) : Type 1 where
  pub processes : Ghosts P
  pub outs : WriterGhosts O
  pub errs : WriterGhosts E

abbrev pub known_of : {P O E : Type 0} → Ghosts P → WriterGhosts O → WriterGhosts E → Known P O E
known_of processes outs errs = record { processes = processes; outs = outs; errs = errs }

-- how a check begins: by which plan, the starts that were asked for before it, and what it writes to as that is then
pub record Beginning (P O E : Type 0) : Type 0 where
  pub plan : Plan
  pub asked : Attempts P
  pub streams : Streams O E

abbrev pub beginning : {P O E : Type 0} → Plan → Attempts P → Streams O E → Beginning P O E
beginning plan asked streams = record { plan = plan; asked = asked; streams = streams }

-- before the first turn
abbrev pub first_point : {P O E : Type 0} → Beginning P O E → Point P O E
first_point begins = point (before_all begins.plan) begins.asked begins.streams

module _ {P O E : Type 0} (known : Known P O E) (plan : Plan) where
  -- This number of turns was taken, from a first point on. What is due in each was written in it, and its progress
  -- where that is shown.
  pub data Turns (first : Point P O E) : ℕ → Point P O E → Type 0 where
    not_yet : Turns first 0 first
    turns : {count : ℕ} {before after : Point P O E} {texts shows : List (List ℕ)} → Turns first count before
        → Turn known.processes plan before.now after.now texts shows
        → AreFlushed known.outs texts before.streams.output after.streams.output
        → IsShown known.errs plan.shows_progress shows before.streams.errors after.streams.errors
        → Turns first (count + 1) after

  -- the check is over, after turns
  pub record TurnsAreOver (first : Point P O E) (why : Over) (last : Point P O E) : Type 0 where
    pub count : ℕ
    pub before : Moment P
    pub turns : Turns first count (record last { now = before })
    pub over : IsOver known.processes plan before why last.now

  -- Why a turn stopped. The output broke at what was due in it. Or memory was refused: for a start; for a command;
  -- for the first line; or after something wrong was found, for its complaint. The process that the check had then,
  -- if any, the starts that were asked for, and what was written of the progress.
  pub data StopsIn (before : Point P O E) : Option P → Attempts P → Streams O E → Failure → Type 0 where
    first_line_broke : {mid next : State P} {after : Streams O E} {fault : Option Fault} {line : List ℕ}
        → (heard : Exchanges known.processes plan before.now.state fault mid)
        → WritesFirst known.processes plan mid (is_blamed plan.unasked fault) next (line ∷ [])
        → BreaksAt known.outs line before.streams.output after.output
        → IsShown known.errs plan.shows_progress (waiting plan heard.mid ++ cleared ∷ [])
        before.streams.errors after.errors
        → StopsIn before (process_of mid.engine) before.now.asked after Write
    complaint_broke : {mid next : State P} {closed : Moment P} {line_flushed : O} {after : Streams O E}
        {fault : Option Fault} {line : List (List ℕ)} {text : List ℕ}
        → (heard : Exchanges known.processes plan before.now.state fault mid)
        → WritesFirst known.processes plan mid (is_blamed plan.unasked fault) next line
        → AreFlushed known.outs line before.streams.output line_flushed
        → Complains known.processes plan (moment next before.now.asked) fault closed (text ∷ [])
        → BreaksAt known.outs text line_flushed after.output
        → IsShown known.errs plan.shows_progress
        (waiting plan heard.mid ++ (clearing line ++ looking (text ∷ []))) before.streams.errors after.errors
        → StopsIn before None closed.asked after Write
    no_memory_to_start : {mid : State P} {course : Course} {has : Attempts P}
        → Asks plan.singly before.now.state mid → IsNext mid.course mid.check.exam Start course
        → Tries before.now.asked has (program_line plan.words.items) (Err start_fault.OutOfMemory)
        → StopsIn before (process_of mid.engine) has before.streams OutOfMemory
    no_memory_to_ask :
        StopsIn before (process_of before.now.state.engine) before.now.asked before.streams OutOfMemory
    no_memory_for_first_line : {mid : State P} {sees : E} {fault : Option Fault}
        → (heard : Exchanges known.processes plan before.now.state fault mid)
        → IsShown known.errs plan.shows_progress (waiting plan heard.mid) before.streams.errors sees
        → StopsIn before (process_of mid.engine) before.now.asked (record before.streams { errors = sees })
        OutOfMemory
    no_memory_to_complain : {mid next closed : State P} {has : Attempts P} {after : Streams O E} {fault : Fault}
        {line : List (List ℕ)} {wrong : Wrong}
        → (heard : Exchanges known.processes plan before.now.state (Some fault) mid)
        → WritesFirst known.processes plan mid true next line
        → AreFlushed known.outs line before.streams.output after.output
        → Closes known.processes fault next wrong closed
        → AsksForMore (program_line plan.words.items) before.now.asked has
        → IsShown known.errs plan.shows_progress
        (waiting plan heard.mid ++ (clearing line ++ looking_line ∷ [])) before.streams.errors after.errors
        → StopsIn before None has after OutOfMemory

  -- a check stopped after turns: in the next one, or since there were too many
  pub data HasStopped (first : Point P O E) : Option P → Attempts P → Streams O E → Failure → Type 0 where
    stopped : {count : ℕ} {before : Point P O E} {process : Option P} {has : Attempts P} {after : Streams O E}
        {failure : Failure} → Turns first count before → StopsIn before process has after failure
        → HasStopped first process has after failure
    too_many_turns : {last : Point P O E} → Turns first most_turns last
        → HasStopped first (process_of last.now.state.engine) last.now.asked last.streams TooManyTurns
