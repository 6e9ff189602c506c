use Rattle.gtp_world.specs.declared.events.Event.TheVariants.{BrokenWrite}
use Rattle.gtp_world.proofs.joined.EventLemmas.{happens_keeps}
use Rattle.gtp_world.proofs.laws.a_broken_write_keeps_it.Goals as goal

pub returns : goal.returns
returns g c count black white old new joined happens =
    happens_keeps _ _
    g.met.B.Made.Policy.lawful g.met.W.Made.Policy.lawful old (BrokenWrite count) new happens joined
