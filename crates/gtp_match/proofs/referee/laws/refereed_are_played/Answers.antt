use Rattle.gtp_match.proofs.refereeing.Playing.{refereed_are_played}
use Rattle.gtp_match.proofs.referee.laws.refereed_are_played.Goals as goal

pub returns : goal.returns
returns c = refereed_are_played
