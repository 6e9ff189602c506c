use Rattle.std.proofs.Common.{refl}
use Rattle.vintsaky_calls.specs.Talks.{Talk}
use Rattle.vintsaky.proofs.laws.placed_engines_begin_talks.Goals as goal

pub returns : goal.returns
returns ctx = record { talk = Talk.placed; game = refl }
