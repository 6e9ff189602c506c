use Rattle.gtp_wire.proofs.texts.Points.{named_once, names_them}
use Rattle.gtp_wire.proofs.laws.handicaps_are_named_once.Goals as goal

pub returns : goal.returns
returns c points words distinct = ((λ e. named_once points words distinct e), (λ names. names_them points words names))
