use Rattle.std.proofs.Common.{codes}
use Rattle.gtp_process.specs.Shown.{quoted, reason_text}
use Rattle.gtp_process.proofs.streams.ShownBytes.{joined-4}
use Rattle.gtp_process.proofs.shown.push_unstarted.Goals as goal

pub returns-clause-bytes : goal.returns-clause-bytes
returns-clause-bytes g c =
    rw c.push_quoted.ensures.bytes (rw c.push-3.ensures.bytes (rw c.push-2.ensures.bytes (rw c.push.ensures.bytes
    (rw c.reason_text.ensures.text (rw c.deref.ensures.0
    (joined-4 c.args.line.now.items (codes "not started: ") (reason_text c.args.start.now.reason) (codes ": ")
    (quoted c.args.start.now.program.items)))))))
