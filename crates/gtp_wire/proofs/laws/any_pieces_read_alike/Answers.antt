use Rattle.gtp_wire.proofs.line_reading.OneAfterOther.{Finds-lines, Finds-pieces}
use Rattle.gtp_wire.proofs.laws.any_pieces_read_alike.Goals as goal

pub returns : goal.returns
returns c old pieces found new none pieces_fed =
    let finds = Finds-pieces none pieces_fed in
    (Finds-lines finds, finds)
