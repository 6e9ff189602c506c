use Rattle.gtp_session.proofs.engines.OneReplyALine.{replies_once}
use Rattle.gtp_session.proofs.laws.each_line_is_answered_once.Goals as goal

pub returns : goal.returns
returns g c old new text replies e given = replies_once g.P.Policy.may old new text replies e given
