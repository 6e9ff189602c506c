use Rattle.std.proofs.Common.{◌≡◌, ◌≤◌, ◌-◌, length, take}
use Rattle.std.specs.Io.KnownBytes.{Appends}
use Rattle.byte_streams.proofs.streams.send.Given as goal

abbrev pub invariant-loop-done : goal.invariant-loop-done
invariant-loop-done g l = record {
  within : l.done ≤ length l.text;
  taken : Appends (g.W.Outgoing.shown l.fn.writer).holds (g.W.Outgoing.shown l.writer).holds (take l.done l.text);
  held : (g.W.Outgoing.shown l.writer).failures ≡ (g.W.Outgoing.shown l.fn.writer).failures;
}

abbrev pub decreases-loop-done : goal.decreases-loop-done
decreases-loop-done g l = length l.text - l.done
