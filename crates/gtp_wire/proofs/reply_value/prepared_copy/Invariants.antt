use Rattle.std.proofs.Common.{◌≡◌, ◌≤◌, length, take}
use Rattle.gtp_wire.specs.Replies.{prepared}
use Rattle.gtp_wire.proofs.reply_value.prepared_copy.Given as goal

-- the bytes so far are prepared
abbrev pub invariant-loop-byte : goal.invariant-loop-byte
invariant-loop-byte l = record {
  made : l.kept.items ≡ prepared (take l.byte-index l.raw);
  short : length l.kept.items ≤ l.byte-index;
}
