use Rattle.gtp_match.specs.Sides.{side_of}
use Rattle.gtp_match.proofs.actions.InStep.{in_step_says}
use Rattle.gtp_match.proofs.laws.in_step_says.Goals as goal

pub returns : goal.returns
returns ctx c side = in_step_says c.game (side_of c.sides side).up
