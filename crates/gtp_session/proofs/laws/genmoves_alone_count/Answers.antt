use Rattle.gtp_session.proofs.engines.Genmoves.{genmoves_alone}
use Rattle.gtp_session.proofs.laws.genmoves_alone_count.Goals as goal

pub returns : goal.returns
returns g c = genmoves_alone g.P.Policy.may
