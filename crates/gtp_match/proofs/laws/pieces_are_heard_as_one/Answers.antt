use Rattle.gtp_match.proofs.hearing.Pieces.{as_one}
use Rattle.gtp_match.proofs.laws.pieces_are_heard_as_one.Goals as goal

pub returns : goal.returns
returns c side from mid two one a b first second joined in_a in_b in_both =
    as_one side from mid two one a b first second joined in_a in_b in_both
