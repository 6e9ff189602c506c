use Rattle.vintsaky_calls.proofs.Talking.{talks_are_runs, begun_are_alike}
use Rattle.vintsaky_calls.proofs.laws.talks_are_runs.Goals as goal

pub returns : goal.returns
returns ctx = record { runs = talks_are_runs; alike = begun_are_alike }
