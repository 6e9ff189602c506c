use Rattle.gtp_world.proofs.event_laws.DownLemmas.{never_blames}
use Rattle.gtp_world.proofs.laws.no_side_is_blamed.Goals as goal

pub returns : goal.returns
returns g c black white =
    never_blames _ _
    g.met.B.Made.Policy.lawful g.met.W.Made.Policy.lawful
