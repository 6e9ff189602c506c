use Rattle.gtp_world.proofs.joined.AgreementLemmas.{agreement}
use Rattle.gtp_world.proofs.laws.worlds_always_agree.Goals as goal

pub returns : goal.returns
returns g c black white =
    agreement _ _
    g.met.B.Made.Policy.lawful g.met.W.Made.Policy.lawful
