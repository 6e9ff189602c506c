use Rattle.gtp_world.specs.declared.events.Event.TheVariants.{ToController}
use Rattle.gtp_world.specs.Worlds.{policies_by}
use Rattle.gtp_world.proofs.joined.EventLemmas.{happens_keeps}
use Rattle.gtp_world.proofs.laws.bytes_to_the_controller_keep_it.Goals as goal

pub returns : goal.returns
returns g c side count black white old new joined happens =
    happens_keeps (policies_by g.B.Made.Policy.may g.B.Maker.may_make black)
    (policies_by g.W.Made.Policy.may g.W.Maker.may_make white)
    g.met.B.Made.Policy.lawful g.met.W.Made.Policy.lawful old (ToController side count) new happens joined
