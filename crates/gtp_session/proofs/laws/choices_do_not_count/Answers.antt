use Rattle.gtp_session.proofs.table.Asking.{answer-same}
use Rattle.gtp_session.proofs.laws.choices_do_not_count.Goals as goal

pub returns : goal.returns
returns c game line a b e = answer-same game line a b e
