use Rattle.gtp_wire.proofs.first_answers.FaultStays.{fault_stays}
use Rattle.gtp_wire.proofs.laws.faults_stay.Goals as goal

pub returns : goal.returns
returns c old piece used fault held later more got new reads next =
    fault_stays old piece used fault held later more got new reads next
