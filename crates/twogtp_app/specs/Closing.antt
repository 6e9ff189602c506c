-- How the processes of a match that is over are closed.
use Rattle.std.specs.Prelude.{◌==◌, Bool, true, false, Option}
use Rattle.go_base.specs.declared.colours.Colour.{Colour}
use Rattle.go_base.specs.declared.colours.Colour.TheVariants.{Black, White}
use Rattle.gtp_match.specs.declared.controller.Controller.{Controller}
use Rattle.gtp_match.specs.declared.sides.Status.{Status}
use Rattle.gtp_match.specs.declared.sides.Status.TheVariants.{Down, Up}
use Rattle.gtp_match.specs.Sides.{side_of, status_of}
use Rattle.twogtp_app.specs.declared.processes.Processes.{Processes}
use Rattle.gtp_process.specs.declared.starter.Process.{Ghosts}
use Rattle.gtp_process.specs.Endings.{IsEnded}
use Rattle.gtp_process.specs.Quitting.{QuitsIfAny}

-- a side is up and has no unanswered command
abbrev pub has_answered_all : Status → Bool
has_answered_all Down = false
has_answered_all (Up confirmed unanswered asked) = unanswered == 0

-- The process of a side was closed. One of a side that is up and owes nothing was sent `quit`, and then it ended.
-- Any other was sent nothing, and it ended.
abbrev pub IsClosedWhere : {P : Type 0} → Ghosts P → Bool → Option P → Type 0
IsClosedWhere known true process = QuitsIfAny known process
IsClosedWhere known false process = IsEnded known process

abbrev pub IsSideClosed : {P : Type 0} → Ghosts P → Controller → Colour → Option P → Type 0
IsSideClosed known c side process =
    IsClosedWhere known (has_answered_all (status_of (side_of c.sides side).up)) process

-- the processes of both sides were closed
pub record AreClosed {P : Type 0} (known : Ghosts P) (c : Controller) (processes : Processes P) : Type 0 where
  pub black : IsSideClosed known c Black processes.black
  pub white : IsSideClosed known c White processes.white
