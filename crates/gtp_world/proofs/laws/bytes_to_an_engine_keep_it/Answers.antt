use Rattle.gtp_world.specs.declared.events.Event.TheVariants.{ToEngine}
use Rattle.gtp_world.proofs.joined.EventLemmas.{happens_keeps}
use Rattle.gtp_world.proofs.laws.bytes_to_an_engine_keep_it.Goals as goal

pub returns : goal.returns
returns g c side count black white old new joined happens =
    happens_keeps _ _
    g.met.B.Made.Policy.lawful g.met.W.Made.Policy.lawful old (ToEngine side count) new happens joined
