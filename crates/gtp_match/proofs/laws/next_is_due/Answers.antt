use Rattle.gtp_match.proofs.actions.Due.{next_is_due}
use Rattle.gtp_match.proofs.laws.next_is_due.Goals as goal

pub returns : goal.returns
returns ctx c sound = next_is_due c sound
