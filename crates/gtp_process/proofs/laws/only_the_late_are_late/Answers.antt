use Rattle.gtp_process.proofs.Lateness.{overdue_where_late}
use Rattle.gtp_process.proofs.laws.only_the_late_are_late.Goals as goal

pub returns : goal.returns
returns c = overdue_where_late
