use Rattle.gtp_check_judge.proofs.checks.Bounds.{bounded}
use Rattle.gtp_check_judge.proofs.laws.every_check_is_bounded.Goals as goal

pub returns : goal.returns
returns c rule most count check calls = bounded rule most count check calls
