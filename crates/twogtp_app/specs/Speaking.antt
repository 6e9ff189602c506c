-- What the process of a side is sent, and what is read of it, in a turn.
use Rattle.std.specs.Prelude.{◌≡◌, ◌≢◌, ◌<◌, ◌+◌, ℕ, List, [], ◌++◌, length, Option, Some, None}
use Rattle.std.specs.Prelude.{option_map}
use Rattle.std.specs.Io.KnownBytes.{Appends, Keeps}
use Rattle.go_base.specs.declared.colours.Colour.{Colour}
use Rattle.gtp_match.specs.declared.controller.Controller.{Controller}
use Rattle.gtp_match.specs.declared.sides.EngineRun.{EngineRun}
use Rattle.gtp_match.specs.declared.verdicts.Action.TheVariants.{Send}
use Rattle.gtp_match.specs.Controller.{next_text, sent, lost}
use Rattle.gtp_match.specs.Losing.{owed}
use Rattle.gtp_match.specs.Next.{next}
use Rattle.gtp_match.specs.Reporting.{HearsReport}
use Rattle.gtp_match.specs.declared.losses.Loss.{Loss}
use Rattle.gtp_match.specs.Sides.{side_of}
use Rattle.gtp_process.specs.declared.starter.Process.{Ghosts}
use Rattle.twogtp_app.specs.declared.why.TurnLoss.{TurnLoss}
use Rattle.twogtp_app.specs.declared.why.TurnLoss.TheVariants.{CutOff, Wrote}
use Rattle.gtp_process.specs.declared.causes.PipeCause.{PipeCause}
use Rattle.gtp_process.specs.declared.causes.PipeCause.TheVariants.{Writing, Reading, Ended}
use Rattle.twogtp_app.specs.declared.why.TurnReport.{TurnReport}
use Rattle.byte_streams.specs.Parts.{TakesPart}
use Rattle.gtp_process.specs.Pipes.{IsCutOff, IsUnbroken, OutputEnded}
use Rattle.twogtp_app.specs.Processes.{WithProcess}
use Rattle.twogtp_app.specs.Why.{only_loss}

-- The bytes of the command that a side is sent next; none where it is down.
abbrev pub command_for : Controller → Colour → Option EngineRun → List ℕ
command_for c side None = []
command_for c side (Some engine) = next_text c side engine

abbrev pub command_text : Controller → Colour → List ℕ
command_text c side = command_for c side (side_of c.sides side).up

-- This number of commands was taken for a side, one after the other, each as it came next. Each counts as sent, and
-- their bytes are joined to this text.
pub data TakesCommands (c : Controller) (side : Colour) : ℕ → List ℕ → Controller → Type 0 where
  none : TakesCommands c side 0 [] c
  one_more : {number : ℕ} {text : List ℕ} {mid : Controller} → TakesCommands c side number text mid
      → next mid ≡ Send side
      → TakesCommands c side (number + 1) (text ++ command_text mid side) (sent mid side)

-- All that come next for it were taken, until something else comes next.
pub record TakesAllCommands (c : Controller) (side : Colour) (text : List ℕ) (new : Controller) : Type 0 where
  pub number : ℕ
  pub takes : TakesCommands c side number text new
  pub all : next new ≢ Send side

-- A side is cut off so, and owes what it owes in this match.
abbrev pub cut_off : PipeCause → Controller → Colour → Option TurnLoss
cut_off cause c side = option_map (CutOff cause) (owed c side)

-- A side was to be sent its commands: all that come next for it, in one text. Its process took the whole text, no call
-- broke, and nothing waits to be written: they count as sent. Or it took the beginning of it and was cut off: the side
-- fails, and the commands are among what it owed. It gave nothing.
pub data AreSent {P : Type 0} (known : Ghosts P) (c : Controller) (side : Colour) (before after : P)
    : Controller → Option TurnLoss → Type 0 where
  taken : {text : List ℕ} {new : Controller} → TakesAllCommands c side text new
      → Appends (known.taken before) (known.taken after) text
      → IsUnbroken known.fails known.succeeds before after → known.flushed after
      → Keeps (known.given before) (known.given after)
      → AreSent known c side before after new None
  failed : {text : List ℕ} {new : Controller} → TakesAllCommands c side text new
      → TakesPart text (known.taken before) (known.taken after)
      → IsCutOff known.fails known.succeeds before after
      → Keeps (known.given before) (known.given after)
      → AreSent known c side before after (lost new side) (cut_off Writing new side)

-- All bytes of a side are heard, and this is reported of them: the `play` that is retaken by them, if any, and why the
-- side failed by them, if it did.
abbrev pub ReportedBy : Colour → Controller → List ℕ → Controller → TurnReport → Type 0
ReportedBy side c bytes new report =
    (loss : Option Loss) × HearsReport side c bytes (record { retake = report.retake; loss = loss }) new
    × (report.loss ≡ option_map Wrote loss)

-- A side was waited for. What its process gave, a byte at least, was heard, all of it, and no call broke. Or its output
-- ended, or the process was cut off, and it gave nothing: the side fails. It was sent nothing.
pub data IsHeard {P : Type 0} (known : Ghosts P) (c : Controller) (side : Colour) (before after : P)
    : Controller → TurnReport → Type 0 where
  heard : {new : Controller} {report : TurnReport} (bytes : List ℕ)
      → 0 < length bytes → Appends (known.given before) (known.given after) bytes
      → ReportedBy side c bytes new report
      → IsUnbroken known.fails known.succeeds before after
      → Keeps (known.taken before) (known.taken after)
      → IsHeard known c side before after new report
  ended : OutputEnded known.fails known.succeeds known.runs_out before after
      → Keeps (known.given before) (known.given after)
      → Keeps (known.taken before) (known.taken after)
      → IsHeard known c side before after (lost c side) (only_loss (cut_off Ended c side))
  broke : IsCutOff known.fails known.succeeds before after
      → Keeps (known.given before) (known.given after)
      → Keeps (known.taken before) (known.taken after)
      → IsHeard known c side before after (lost c side) (only_loss (cut_off Reading c side))

-- a side in its turn: the match, and the process of the side, if it has one
pub record SideInTurn (P : Type 0) : Type 0 where
  pub game : Controller
  pub process : Option P

abbrev pub in_turn : {P : Type 0} → Controller → Option P → SideInTurn P
in_turn game process = record { game = game; process = process }

-- a side was to be sent its commands, and one that has no process fails
abbrev pub SendsToSide : {P : Type 0} → Ghosts P → Colour → SideInTurn P → SideInTurn P → Option TurnLoss → Type 0
SendsToSide {P} known side before after why =
    WithProcess before.process after.process
    (λ (old now : P). AreSent known before.game side old now after.game why)
    ((after.game ≡ lost (sent before.game side) side) × (why ≡ cut_off Writing (sent before.game side) side))

-- a side was waited for, and one that has no process fails
abbrev pub HearsFromSide : {P : Type 0} → Ghosts P → Colour → SideInTurn P → SideInTurn P → TurnReport → Type 0
HearsFromSide {P} known side before after report =
    WithProcess before.process after.process
    (λ (old now : P). IsHeard known before.game side old now after.game report)
    ((after.game ≡ lost before.game side) × (report ≡ only_loss (cut_off Reading before.game side)))
