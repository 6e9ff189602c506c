-- The retake that a match reports of a refused `play`. (Own.)
use Rattle.std.specs.Prelude.{◌≡◌, ◌+◌, ◌≤◌, ℕ, List, [], length, slice_get, Option, None, Some}
use Rattle.std.specs.Prelude.{IsSome, if◌then◌else◌}
use Rattle.go_base.specs.Colour.{other}
use Rattle.go_base.specs.declared.colours.Colour.{Colour}
use Rattle.go_base.specs.declared.moves.Move.{Move}
use Rattle.gtp_wire.specs.declared.commands.Command.TheVariants.{Play}
use Rattle.gtp_match.specs.declared.controller.Controller.{Controller}
use Rattle.gtp_match.specs.declared.reports.Retake.{Retake}
use Rattle.gtp_match.specs.declared.sides.EngineRun.{EngineRun}
use Rattle.gtp_match.specs.declared.reply_table.Outcome.{Outcome}
use Rattle.gtp_match.specs.declared.reply_table.Outcome.TheVariants.{Down, Unfit, Forfeits, Confirms, Resigns, Moves}
use Rattle.gtp_match.specs.declared.reply_table.Outcome.TheVariants.{Refuses, TakesBack, Keeps}
use Rattle.gtp_match.specs.declared.unanswered.SentCommand.{SentCommand}
use Rattle.gtp_match.specs.Losing.{owed_of}
use Rattle.gtp_match.specs.Retakes.{most_retakes, retakes_of, total_of}
use Rattle.gtp_match.specs.Taking.{may_retake}

-- ---- by an outcome

-- the next retake of the last move's number, by this text, which ends with the refusal
abbrev pub retake_of : Controller → EngineRun → List ℕ → Retake
retake_of c engine text = record {
  count = retakes_of c.retakes (length c.game.moves) + 1;
  owed = owed_of engine text;
}

-- What a reply with this outcome, the end of this text, reports as retaken: a refused `play` that may be retaken.
-- Whether an `undo` can still follow makes no difference.
abbrev pub retake_by : Controller → Colour → EngineRun → List ℕ → Outcome → Option Retake
retake_by c side engine text (Down fault) = None
retake_by c side engine text Unfit = None
retake_by c side engine text (Forfeits cause) = None
retake_by c side engine text Confirms = None
retake_by c side engine text Resigns = None
retake_by c side engine text (Moves v) = None
retake_by c side engine text Refuses = if may_retake c side engine then Some (retake_of c engine text) else None
retake_by c side engine text TakesBack = None
retake_by c side engine text Keeps = None

-- ---- what is reported, without the table

-- The retake is of the last move, which the other side made: its `play` alone was unanswered at this side. The retake's
-- count is what its number has afterwards, and it is one of the three that a number may have.
pub record IsOfLastMove (c new : Controller) (side : Colour) (retake : Retake) : Type 0 where
  pub place : ℕ
  pub move : Move
  pub there : slice_get c.game.moves place ≡ Some move
  pub last : place + 1 ≡ length c.game.moves
  pub by_other : move.colour ≡ other side
  pub entry : SentCommand
  pub oldest : retake.owed.oldest ≡ Some entry
  pub play : entry.command ≡ Play move
  pub alone : retake.owed.unanswered ≡ 1
  pub count : retake.count ≡ retakes_of new.retakes (place + 1)
  pub first : 1 ≤ retake.count
  pub few : retake.count ≤ most_retakes

-- what a match reports as retaken of bytes of this side that were heard
pub record AreReported (side : Colour) (c new : Controller) (retakes : List Retake) : Type 0 where
  -- one for each that is counted
  pub counted : total_of new.retakes ≡ total_of c.retakes + length retakes
  pub each : (place : ℕ) (retake : Retake) → slice_get retakes place ≡ Some retake → IsOfLastMove c new side retake
  pub one : length retakes ≤ 1
  -- none once a verdict was given
  pub over : IsSome c.verdict → retakes ≡ []
