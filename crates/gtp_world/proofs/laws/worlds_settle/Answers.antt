use Rattle.gtp_world.proofs.stepping.CatchUpLemmas.{settles}
use Rattle.gtp_world.proofs.event_laws.DownLemmas.{starts_are_left}
use Rattle.gtp_world.proofs.laws.worlds_settle.Goals as goal

pub returns-clause-settle : goal.returns-clause-settle
returns-clause-settle g c black white =
    settles _ _
    g.met.B.Made.Policy.lawful g.met.W.Made.Policy.lawful

pub returns-clause-starts : goal.returns-clause-starts
returns-clause-starts g c black white =
    starts_are_left _ _
    g.met.B.Made.Policy.lawful g.met.W.Made.Policy.lawful
