use Rattle.vintsaky_calls.proofs.Sending.{were_written, were_sent}
use Rattle.vintsaky_calls.proofs.laws.sent_commands_were_written.Goals as goal

pub returns : goal.returns
returns ctx = record { written = were_written; counted = were_sent }
