use Rattle.gtp_wire.proofs.first_answers.Pieces.{pieces_answer_alike}
use Rattle.gtp_wire.proofs.laws.any_pieces_answer_alike.Goals as goal

pub returns : goal.returns
returns c old pieces used got new quiet read = pieces_answer_alike quiet read
