-- How the processes of a match that is over are closed.
use Rattle.std.proofs.Common.{Bool, true, false, Option}
use Rattle.std.proofs.Common.{subst}
use Rattle.gtp_process.specs.declared.starter.Process.{Ghosts}
use Rattle.gtp_process.specs.Quitting.{QuitsIfAny}
use Rattle.twogtp_app.specs.Closing.{IsClosedWhere}
use Rattle.twogtp_app.specs.private.Leaving.{IsLeft}

-- what was left was sent `quit` and ended, and the rest has ended
pub closed_where : {P : Type 0} (known : Ghosts P) (b : Bool) (process left : Option P) → IsLeft known b process left
    → QuitsIfAny known left → IsClosedWhere known b process
closed_where known true process left is quits = subst (λ (p : Option _). QuitsIfAny known p) is quits
closed_where known false process left is quits = is.1
