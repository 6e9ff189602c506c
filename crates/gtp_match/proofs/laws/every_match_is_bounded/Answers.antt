use Rattle.gtp_match.proofs.bounds.Limits.{match_bounded}
use Rattle.gtp_match.proofs.laws.every_match_is_bounded.Goals as goal

pub returns : goal.returns
returns c setup calls last is all = match_bounded setup calls last is all
