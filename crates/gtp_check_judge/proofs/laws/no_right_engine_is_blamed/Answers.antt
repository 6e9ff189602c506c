use Rattle.gtp_check_judge.proofs.engines.Followed.{never_blamed}
use Rattle.gtp_check_judge.proofs.laws.no_right_engine_is_blamed.Goals as goal

pub returns : goal.returns
returns g c rule policy engine out sent came said old new bytes later used read finding talk h engages front =
    never_blamed g.P.Policy.may g.met.P.Policy.lawful rule policy engine out sent came said old new bytes later used
    read finding talk h engages front
