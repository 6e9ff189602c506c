-- What a refused `play` leaves, whatever it is.
use Rattle.std.proofs.Common.{Bool, true, false}
use Rattle.go_base.specs.Colour.{other}
use Rattle.go_base.specs.declared.colours.Colour.{Colour}
use Rattle.gtp_match.specs.ReplyTable.{ended, retaken_at, refused}
use Rattle.gtp_match.specs.Sides.{side_of}
use Rattle.gtp_match.specs.Taking.{has_all}
use Rattle.gtp_match.specs.declared.controller.Controller.{Controller}
use Rattle.gtp_match.specs.declared.sides.EngineRun.{EngineRun}
use Rattle.gtp_match.specs.declared.verdicts.ForfeitCause.TheVariants.{RefusedPlay}
use Rattle.gtp_match.specs.declared.verdicts.Verdict.TheVariants.{Forfeit}

-- what holds where the side forfeits, where the move is to be taken back, and where it leaves the record, holds
pub refused_all : (P : Controller → Type 0) (c : Controller) (s : Colour) (engine : EngineRun)
    → P (ended c s engine (Forfeit s RefusedPlay)) → P (retaken_at c s engine true) → P (retaken_at c s engine false)
    → (b : Bool) → P (refused c s engine b)
refused_all P c s engine forfeits held unheld false = forfeits
refused_all P c s engine forfeits held unheld true = by_held (has_all c.game (side_of c.sides (other s)).up)
  where
    by_held : (b : Bool) → P (retaken_at c s engine b)
    by_held true = held
    by_held false = unheld
