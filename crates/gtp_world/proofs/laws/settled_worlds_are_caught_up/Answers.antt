use Rattle.gtp_world.proofs.settling.CaughtUpLemmas.{openings_settle}
use Rattle.gtp_world.proofs.stepping.CatchUpLemmas.{quiet_catches_up, settled_is}
use Rattle.gtp_world.proofs.laws.settled_worlds_are_caught_up.Goals as goal

pub returns-clause-openings : goal.returns-clause-openings
returns-clause-openings g c = openings_settle

pub returns-clause-quiet : goal.returns-clause-quiet
returns-clause-quiet g c black white =
    quiet_catches_up _ _
    g.met.B.Made.Policy.lawful g.met.W.Made.Policy.lawful

pub returns-clause-settled : goal.returns-clause-settled
returns-clause-settled g c black white =
    settled_is _ _
    g.met.B.Made.Policy.lawful g.met.W.Made.Policy.lawful
