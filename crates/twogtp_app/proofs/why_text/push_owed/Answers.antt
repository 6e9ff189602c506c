use Rattle.std.proofs.Common.{codes}
use Rattle.std.specs.Fmt.{decimal}
use Rattle.twogtp_app.specs.Why.{oldest_text}
use Rattle.gtp_process.proofs.streams.ShownBytes.{joined-4}
use Rattle.twogtp_app.proofs.why_text.push_owed.Goals as goal

pub returns-clause-bytes : goal.returns-clause-bytes
returns-clause-bytes c =
    rw c.push-2.ensures.bytes (rw c.push_oldest.ensures.bytes (rw c.push.ensures.bytes (rw c.push_number.ensures.bytes
    (joined-4 c.args.line.now.items (decimal c.args.owed.now.unanswered) (codes " unanswered")
    (oldest_text c.args.owed.now.unanswered c.args.owed.now.oldest) (codes ": ")))))
