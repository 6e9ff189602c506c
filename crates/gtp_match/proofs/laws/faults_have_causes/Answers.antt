use Rattle.gtp_match.proofs.replies.Faults.{faults_have_causes}
use Rattle.gtp_match.proofs.laws.faults_have_causes.Goals as goal

pub returns : goal.returns
returns ctx c new s bytes used shown hears = faults_have_causes c new s bytes used shown hears
