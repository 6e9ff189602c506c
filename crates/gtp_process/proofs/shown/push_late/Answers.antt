use Rattle.std.proofs.Common.{codes}
use Rattle.std.specs.Fmt.{decimal}
use Rattle.gtp_process.specs.Shown.{unit_text}
use Rattle.gtp_process.proofs.streams.ShownBytes.{joined-3}
use Rattle.gtp_process.proofs.shown.push_late.Goals as goal

pub returns-clause-bytes : goal.returns-clause-bytes
returns-clause-bytes g c =
    rw c.push-3.ensures.bytes (rw c.push-2.ensures.bytes (rw c.push.ensures.bytes
    (rw c.unit_text.ensures.text (rw c.deref.ensures.0 (rw c.write_int.ensures
    (joined-3 c.args.line.now.items (codes "no answer in ") (decimal c.args.seconds) (unit_text c.args.seconds)))))))
