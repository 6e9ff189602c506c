use Rattle.std.specs.Prelude.{◌≡◌}
use Rattle.gtp_wire.proofs.line_reading.Feeding.{ReadsSoFar}
use Rattle.gtp_wire.proofs.lines.LineReader.feed_into.Given as goal

-- the bytes so far gave no line, what is held reads on as they do, and the line that was passed in is still there
abbrev pub invariant-loop-i : goal.invariant-loop-i
invariant-loop-i l = ReadsSoFar l.fn.self l.input l.i l.self × (l.line ≡ l.fn.line)
