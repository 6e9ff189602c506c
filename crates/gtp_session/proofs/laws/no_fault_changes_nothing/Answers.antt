use Rattle.gtp_session.proofs.faults.UnderFaults.{off_changes_nothing}
use Rattle.gtp_session.proofs.laws.no_fault_changes_nothing.Goals as goal

pub returns : goal.returns
returns g c = off_changes_nothing g.P.Policy.may
