use Rattle.gtp_match.proofs.endings.Causes.{moves_have_replies}
use Rattle.gtp_match.proofs.laws.moves_have_replies.Goals as goal

pub returns : goal.returns
returns ctx c new s bytes used fault hears = moves_have_replies c new s bytes used fault hears
