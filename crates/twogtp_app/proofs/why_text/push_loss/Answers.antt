use Rattle.twogtp_app.specs.Why.{owed_text, read_text}
use Rattle.gtp_process.specs.Shown.{ending_text, pipe_text}
use Rattle.gtp_process.proofs.streams.ShownBytes.{joined-4}
use Rattle.twogtp_app.proofs.why_text.push_loss.Goals as goal

pub returns-in-CutOff-clause-bytes : goal.returns-in-CutOff-clause-bytes
returns-in-CutOff-clause-bytes c =
    rw c.in-CutOff.is (rw c.push_read.ensures.bytes (rw c.push_ending.ensures.bytes (rw c.push.ensures.bytes
    (rw c.push_owed.ensures.bytes (rw c.pipe_text.ensures.text (rw c.deref.ensures.0
    (joined-4 c.args.line.now.items (owed_text c.in-CutOff.owed) (pipe_text c.in-CutOff.cause)
    (ending_text c.args.ending) (read_text c.in-CutOff.cause c.in-CutOff.owed.bytes.items))))))))
