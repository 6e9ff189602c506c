use Rattle.std.proofs.Common.{◌++◌, take}
use Rattle.gtp_wire.specs.private.ReplyReading.{IsReading}
use Rattle.gtp_wire.proofs.reply_reader.ReplyReader.scan.Given as goal

-- the bytes so far are those of the phase
abbrev pub invariant-loop-i : goal.invariant-loop-i
invariant-loop-i l = IsReading (l.self ++ take l.i l.input) l.phase
