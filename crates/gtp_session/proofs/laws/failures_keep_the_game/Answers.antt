use Rattle.gtp_session.proofs.table.Kept.{failures_keep}
use Rattle.gtp_session.proofs.laws.failures_keep_the_game.Goals as goal

pub returns : goal.returns
returns c game line choice e = failures_keep game line choice e
