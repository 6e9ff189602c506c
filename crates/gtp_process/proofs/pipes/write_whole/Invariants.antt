use Rattle.std.proofs.Common.{◌≤◌, ◌-◌, length, take}
use Rattle.std.specs.Io.KnownBytes.{Appends, Keeps}
use Rattle.gtp_process.specs.Pipes.{IsUnbroken}
use Rattle.gtp_process.proofs.pipes.write_whole.Given as goal

abbrev pub invariant-loop-done : goal.invariant-loop-done
invariant-loop-done g l = record {
  within : l.done ≤ length l.text;
  taken : Appends (g.P.Process.taken l.fn.process) (g.P.Process.taken l.process) (take l.done l.text);
  given : Keeps (g.P.Process.given l.fn.process) (g.P.Process.given l.process);
  unbroken : IsUnbroken g.P.Process.fails g.P.Process.succeeds l.fn.process l.process;
}

abbrev pub decreases-loop-done : goal.decreases-loop-done
decreases-loop-done g l = length l.text - l.done
