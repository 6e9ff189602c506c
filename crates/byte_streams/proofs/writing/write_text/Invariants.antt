use Rattle.std.proofs.Common.{◌≤◌, ◌-◌, length, take, drop}
use Rattle.std.specs.Io.KnownBytes.{Appends}
use Rattle.byte_streams.specs.Writing.{WritesLeave}
use Rattle.byte_streams.proofs.writing.write_text.Given as goal

-- what is done was taken, by writes in a row that left the rest
abbrev pub invariant-loop-done : goal.invariant-loop-done
invariant-loop-done g l = record {
  within : l.done ≤ length l.text;
  taken : Appends (g.W.WriteOnce.holds l.fn.writer) (g.W.WriteOnce.holds l.writer) (take l.done l.text);
  writes : WritesLeave g.W.WriteOnce l.text l.fn.writer (drop l.done l.text) l.writer;
}

abbrev pub decreases-loop-done : goal.decreases-loop-done
decreases-loop-done g l = length l.text - l.done
