use Rattle.gtp_world.specs.declared.events.Event.TheVariants.{Act}
use Rattle.gtp_world.proofs.joined.EventLemmas.{happens_keeps}
use Rattle.gtp_world.proofs.laws.an_act_keeps_it.Goals as goal

pub returns : goal.returns
returns g c black white old new joined happens =
    happens_keeps _ _
    g.met.B.Made.Policy.lawful g.met.W.Made.Policy.lawful old Act new happens joined
