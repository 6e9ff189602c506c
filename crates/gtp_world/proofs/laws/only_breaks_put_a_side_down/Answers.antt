use Rattle.gtp_world.proofs.event_laws.DownLemmas.{only_these}
use Rattle.gtp_world.proofs.laws.only_breaks_put_a_side_down.Goals as goal

pub returns : goal.returns
returns g c black white =
    only_these _ _
    g.met.B.Made.Policy.lawful g.met.W.Made.Policy.lawful
