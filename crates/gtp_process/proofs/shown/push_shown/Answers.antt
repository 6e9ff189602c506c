use Rattle.std.proofs.Common.{refl}
use Rattle.gtp_process.proofs.streams.ShownBytes.{AreShown-push}
use Rattle.gtp_process.proofs.shown.push_shown.Goals as goal

pub loop-byte-preserved : goal.loop-byte-preserved
loop-byte-preserved g c =
    AreShown-push c.args.bytes.now c.loop-byte.byte-index c.args.line.now.items c.loop-byte.line.items
    c.push_byte.new.line.items _ 0 c.loop-byte.invariant c.loop-byte-test.true refl
    c.push_byte.ensures.len c.push_byte.ensures.bytes
