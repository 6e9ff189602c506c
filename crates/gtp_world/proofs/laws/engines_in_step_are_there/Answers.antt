use Rattle.gtp_world.proofs.joined.InStepLemmas.{engines_are_there}
use Rattle.gtp_world.proofs.laws.engines_in_step_are_there.Goals as goal

pub returns : goal.returns
returns g c =
    engines_are_there g.B.Made.Policy.may g.W.Made.Policy.may g.B.Maker.may_make g.W.Maker.may_make
    g.met.B.Made.Policy.lawful g.met.W.Made.Policy.lawful
