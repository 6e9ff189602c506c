use Rattle.std.proofs.Common.{◌≡◌, drop}
use Rattle.gtp_process.specs.Waiting.{with_bytes}
use Rattle.gtp_process.proofs.patience.Patience.hear.Given as goal

-- what is left to hear leads to where all does
abbrev pub invariant-loop-byte : goal.invariant-loop-byte
invariant-loop-byte l = with_bytes l.self (drop l.byte-index l.bytes) ≡ with_bytes l.initial.self l.bytes
