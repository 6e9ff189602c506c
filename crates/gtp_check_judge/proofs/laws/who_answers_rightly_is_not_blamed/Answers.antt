use Rattle.gtp_check_judge.proofs.engines.Rightly.{rightly_unblamed}
use Rattle.gtp_check_judge.proofs.laws.who_answers_rightly_is_not_blamed.Goals as goal

pub returns : goal.returns
returns c rule out sent came said old new bytes later used read finding talk h rightly front =
    rightly_unblamed rule out sent came said old new bytes later used read finding talk h rightly front
