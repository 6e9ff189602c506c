use Rattle.gtp_process.proofs.streams.ShownBytes.{AreShown}
use Rattle.gtp_process.proofs.shown.push_shown.Given as goal

-- the bytes so far are shown
abbrev pub invariant-loop-byte : goal.invariant-loop-byte
invariant-loop-byte g l = AreShown l.bytes l.byte-index l.fn.line.items l.line.items
