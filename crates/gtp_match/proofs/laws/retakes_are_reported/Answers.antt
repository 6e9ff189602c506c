use Rattle.gtp_match.proofs.reporting.RetakeReports.{once_reported, all_reported}
use Rattle.gtp_match.proofs.laws.retakes_are_reported.Goals as goal

pub returns : goal.returns
returns ctx = record { once = once_reported; all = all_reported }
