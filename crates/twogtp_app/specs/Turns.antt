-- What the program does with a match and the processes of its sides, turn by turn.
use Rattle.std.specs.Prelude.{◌≡◌, ℕ, ◌+◌, Bool, true, false, List, [], ◌++◌, Option, None, Some, Result, Ok, Err}
use Rattle.go_base.specs.declared.colours.Colour.{Colour}
use Rattle.gtp_match.specs.declared.controller.Controller.{Controller}
use Rattle.gtp_match.specs.declared.verdicts.Action.{Action}
use Rattle.gtp_match.specs.declared.verdicts.Action.TheVariants.{Start, Send, Wait, Done}
use Rattle.gtp_match.specs.declared.verdicts.Verdict.{Verdict}
use Rattle.gtp_match.specs.Controller.{new, started, lost}
use Rattle.gtp_match.specs.Next.{next}
use Rattle.gtp_match.specs.Setup.{SetupRecord}
use Rattle.gtp_match.specs.Sound.{IsSound}
use Rattle.cli.specs.declared.failure.Failure.{Failure}
use Rattle.cli.specs.declared.failure.Failure.TheVariants.{OutOfMemory, TooManyTurns, Write}
use Rattle.byte_streams.specs.declared.calls.WriteOnce.{Ghosts as WriterGhosts}
use Rattle.twogtp_app.specs.declared.processes.Processes.{Processes}
use Rattle.gtp_process.specs.declared.starter.Process.{Ghosts}
use Rattle.gtp_process.specs.declared.starter.StartFault.TheVariants as start_fault
use Rattle.gtp_process.specs.declared.starter.StartReason.{StartReason}
use Rattle.twogtp_app.specs.declared.task.Commands.{Commands}
use Rattle.twogtp_app.specs.declared.why.SideTurn.{SideTurn}
use Rattle.twogtp_app.specs.declared.why.TurnLoss.{TurnLoss}
use Rattle.twogtp_app.specs.declared.why.TurnLoss.TheVariants.{NotStarted}
use Rattle.twogtp_app.specs.Starts.{program_line_for}
use Rattle.gtp_process.specs.Endings.{IsEnded}
use Rattle.twogtp_app.specs.Processes.{Ends, OtherStays, kept_by, no_processes, process_of}
use Rattle.twogtp_app.specs.Speaking.{HearsFromSide, SendsToSide, SideInTurn, in_turn}
use Rattle.gtp_process.specs.Starts.{Attempts, Tries}
use Rattle.gtp_process.specs.Shown.{unstarted}
use Rattle.twogtp_app.specs.Why.{loss_lines, retake_lines}
use Rattle.byte_streams.specs.Writing.{LinesBreak, AreFlushed}

-- how many turns a game has at most; no match within the limits has this number
abbrev pub most_turns : ℕ
most_turns = 1000000000000

-- ---- between two turns

-- a game between two turns: the match, the processes of its sides, and the starts that were asked for so far, where
-- they are known
pub record GameState (P : Type 0) : Type 0 where
  pub game : Controller
  pub processes : Processes P
  pub asked : Attempts P

abbrev pub state : {P : Type 0} → Controller → Processes P → Attempts P → GameState P
state game processes asked = record { game = game; processes = processes; asked = asked }

-- before the first turn: a new match of this setup, and no process
abbrev pub opening : {P : Type 0} → SetupRecord → Attempts P → GameState P
opening setup asked = state (new setup) no_processes asked

-- how far a game has come: its state between two turns, and the stream on which the turns are reported
pub record Stage (P E : Type 0) : Type 0 where
  pub state : GameState P
  pub errors : E

abbrev pub stage : {P E : Type 0} → GameState P → E → Stage P E
stage state errors = record { state = state; errors = errors }

-- a side of a game in its turn
abbrev pub side_in : {P : Type 0} → GameState P → Colour → SideInTurn P
side_in state side = in_turn state.game (process_of state.processes side)

-- what is written of a turn under this number of a game, where that is asked for: the line of a retake and then that of
-- a loss, each where there is one
abbrev pub turn_lines : Bool → ℕ → SideTurn → List (List ℕ)
turn_lines false number turn = []
turn_lines true number turn =
    retake_lines number turn.side turn.report.retake ++ loss_lines number turn.side turn.report.loss turn.ending

-- ---- one turn

-- the engines of a game: the commands that start them, and what is known of their processes
pub record Engines (P : Type 0) : Type 1 where
  pub commands : Commands
  pub known : Ghosts P

abbrev pub engines_of : {P : Type 0} → Commands → Ghosts P → Engines P
engines_of commands known = record { commands = commands; known = known }

module _ {P : Type 0} (engines : Engines P) where
  -- A side's program was asked for, by that side's command line. It was started: so is the side, and the very process
  -- that was started is its process from then on. One that it had has ended. Or it couldn't be: the side counts as
  -- started and lost, and what process it had stays. What is reported names the program that was looked for.
  pub data Begins (side : Colour) (before after : GameState P) : Option TurnLoss → Type 0 where
    starts : (process : P) → Tries before.asked after.asked (program_line_for engines.commands side) (Ok process)
        → process_of after.processes side ≡ Some process → IsEnded engines.known (process_of before.processes side)
        → after.game ≡ started before.game side
        → Begins side before after None
    fails_to_start : (reason : StartReason) → Tries before.asked after.asked (program_line_for engines.commands side)
        (Err (start_fault.NotStarted reason))
        → process_of after.processes side ≡ process_of before.processes side
        → after.game ≡ lost (started before.game side) side
        → Begins side before after (Some (NotStarted (unstarted (program_line_for engines.commands side) reason)))

  -- A turn of a side does what comes next, with its process, and nothing with the other's: its program is asked for, or
  -- it is sent its commands, all that come next for it, or it is waited for. Only a start asks for a program. Once the
  -- match is over there is no turn. And what is reported: why the side failed, if it did, and by what it wrote also the
  -- `play` that is retaken.
  abbrev pub Turn : Action → GameState P → GameState P → SideTurn → Type 0
  Turn (Start side) before after turn =
      (turn.side ≡ side) × Begins side before after turn.report.loss × (turn.report.retake ≡ None)
      × OtherStays side before.processes after.processes
  Turn (Send side) before after turn =
      (turn.side ≡ side) × SendsToSide engines.known side (side_in before side) (side_in after side) turn.report.loss
      × (turn.report.retake ≡ None) × OtherStays side before.processes after.processes
      × (after.asked ≡ before.asked)
  Turn (Wait side) before after turn =
      (turn.side ≡ side) × HearsFromSide engines.known side (side_in before side) (side_in after side) turn.report
      × OtherStays side before.processes after.processes × (after.asked ≡ before.asked)
  Turn (Done verdict) before after turn = ⊥

  -- One turn did what the controller said. If its side is down after it, the process that the turn left to the side has
  -- ended, and how it did is known.
  pub record IsTurn (before after : GameState P) (turn : SideTurn) : Type 0 where
    pub left : Processes P
    pub done : Turn (next before.game) before (record after { processes = left }) turn
    pub kept : process_of after.processes turn.side ≡ kept_by after.game turn.side (process_of left turn.side)
    pub other : OtherStays turn.side left after.processes
    pub ended : Ends engines.known after.game turn.side (process_of left turn.side) turn.ending

-- a side is to be started, and its program was asked for, and memory refused for it; nothing else was done
pub record IsRefused {P : Type 0} (commands : Commands) (before after : GameState P) : Type 0 where
  pub side : Colour
  pub next : next before.game ≡ Start side
  pub asked : Tries before.asked after.asked (program_line_for commands side) (Err start_fault.OutOfMemory)
  pub game : after.game ≡ before.game
  pub processes : after.processes ≡ before.processes

-- ---- turns, one after another

-- how the turns of a game are reported: what is known of the stream that takes the lines, whether any are asked for, and
-- the number of the game in them
pub record Reporting (E : Type 0) : Type 1 where
  pub known : WriterGhosts E
  pub why : Bool
  pub number : ℕ

abbrev pub reporting : {E : Type 0} → WriterGhosts E → Bool → ℕ → Reporting E
reporting known why number = record { known = known; why = why; number = number }

module _ {P E : Type 0} (engines : Engines P) (reports : Reporting E) where
  -- Turns were taken, this many, from a first stage on. What is written of each was flushed after it.
  pub data Plays (first : Stage P E) : ℕ → Stage P E → Type 0 where
    not_yet : Plays first 0 first
    turns : {count : ℕ} {before after : Stage P E} (turn : SideTurn)
        → Plays first count before
        → IsTurn engines before.state after.state turn
        → AreFlushed reports.known (turn_lines reports.why reports.number turn) before.errors after.errors
        → Plays first (count + 1) after

  -- turns were taken
  abbrev pub HasPlayed : Stage P E → Stage P E → Type 0
  HasPlayed before after = (count : ℕ) × Plays before count after

  -- A game stopped before its end, where its turns had led: turns were taken, and then memory was refused for a start;
  -- or after the last turn the stream broke at a line of it; or there were too many turns.
  pub data HasStopped (before after : Stage P E) : Failure → Type 0 where
    out_of_memory : {between : GameState P} → HasPlayed before (stage between after.errors)
        → IsRefused engines.commands between after.state
        → HasStopped before after OutOfMemory
    line_broke : {between : Stage P E} (turn : SideTurn) → HasPlayed before between
        → IsTurn engines between.state after.state turn
        → LinesBreak reports.known (turn_lines reports.why reports.number turn) between.errors after.errors
        → HasStopped before after Write
    too_many_turns : Plays before most_turns after
        → HasStopped before after TooManyTurns

  -- a game was played to its end, with this verdict
  pub record IsPlayed (before after : Stage P E) (verdict : Verdict) : Type 0 where
    pub plays : HasPlayed before after
    pub over : next after.state.game ≡ Done verdict
    -- what holds of each match: its record is a game of the setup, and its verdict is right
    pub sound : IsSound after.state.game

  -- so turns end: the game was played to its end, or it stopped before that
  abbrev pub TurnsEnd : Stage P E → Stage P E → Result Verdict Failure → Type 0
  TurnsEnd before after (Ok verdict) = IsPlayed before after verdict
  TurnsEnd before after (Err failure) = HasStopped before after failure
