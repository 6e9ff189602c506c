use Rattle.gtp_check_texts.proofs.StonesTaken.{captures-taken}
use Rattle.gtp_check_texts.proofs.laws.captures_are_taken.Goals as goal

pub returns : goal.returns
returns c = captures-taken
