use Rattle.std.proofs.Common.{refl}
use Rattle.gtp_check_app.proofs.check.Check.ending.Goals as goal

pub returns : goal.returns
returns g c = record {
  over = refl;
  missed = rw c.place.ensures at c.missed_from.ensures;
  hidden = c.as_slice.ensures;
  starts = c.starts.ensures.starts;
  complaints = refl;
  unjudged = refl;
}
