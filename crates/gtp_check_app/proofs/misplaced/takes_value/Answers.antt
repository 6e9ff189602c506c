use Rattle.std.proofs.Common.{refl}
use Rattle.gtp_check_app.specs.Misplaced.{takes_value}
use Rattle.gtp_check_app.proofs.misplaced.takes_value.Goals as goal

pub returns : goal.returns
unfolding takes_value
returns c = rw (c.contains.ensures, c.as_slice.ensures) refl
