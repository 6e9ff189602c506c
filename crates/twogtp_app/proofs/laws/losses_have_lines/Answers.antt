use Rattle.twogtp_app.proofs.matches.LossLines.{losses_have_lines}
use Rattle.twogtp_app.proofs.laws.losses_have_lines.Goals as goal

pub returns : goal.returns
returns g c = losses_have_lines g.P.Process
