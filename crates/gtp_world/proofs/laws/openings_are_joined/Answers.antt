use Rattle.gtp_world.proofs.joined.EventLemmas.{opening_has}
use Rattle.gtp_world.proofs.laws.openings_are_joined.Goals as goal

pub returns : goal.returns
returns g c rules setup is = opening_has rules setup is
