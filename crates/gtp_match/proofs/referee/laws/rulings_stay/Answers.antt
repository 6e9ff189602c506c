use Rattle.gtp_match.proofs.refereeing.Staying.{rulings_stay}
use Rattle.gtp_match.proofs.referee.laws.rulings_stay.Goals as goal

pub returns : goal.returns
returns c = rulings_stay
