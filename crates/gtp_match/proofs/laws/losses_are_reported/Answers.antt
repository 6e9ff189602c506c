use Rattle.gtp_match.proofs.reporting.LossReports.{once_loss_reported, all_losses_reported}
use Rattle.gtp_match.proofs.laws.losses_are_reported.Goals as goal

pub returns : goal.returns
returns ctx = record { once = once_loss_reported; all = all_losses_reported }
