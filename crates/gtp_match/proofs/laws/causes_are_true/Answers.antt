use Rattle.gtp_match.proofs.endings.Causes.{causes_are_true}
use Rattle.gtp_match.proofs.laws.causes_are_true.Goals as goal

pub returns : goal.returns
returns ctx c new s bytes used fault v hears none given = causes_are_true c new s bytes used fault v hears none given
