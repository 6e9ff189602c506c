use Rattle.gtp_check_talk.proofs.NotedSince.{are_noted}
use Rattle.gtp_check_talk.proofs.laws.moves_are_noted_once_answered.Goals as goal

pub returns : goal.returns
returns g c = are_noted g.P.Process
