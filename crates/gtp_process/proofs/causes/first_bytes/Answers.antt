use Rattle.std.proofs.lemmas.List.{take_min}
use Rattle.gtp_process.proofs.causes.first_bytes.Goals as goal

pub returns : goal.returns
returns c = rw c.push.ensures.bytes (rw c.new-bytes.ensures (rw c.min.ensures (take_min 80 c.args.text.now)))
