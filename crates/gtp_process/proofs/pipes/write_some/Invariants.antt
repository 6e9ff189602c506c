use Rattle.std.specs.Io.KnownBytes.{Keeps}
use Rattle.gtp_process.specs.Pipes.{AreInterrupted}
use Rattle.gtp_process.proofs.pipes.write_some.Given as goal

-- every call so far was interrupted, and took nothing
abbrev pub invariant-loop-try : goal.invariant-loop-try
invariant-loop-try g l = record {
  given : Keeps (g.P.Process.given l.fn.process) (g.P.Process.given l.process);
  taken : Keeps (g.P.Process.taken l.fn.process) (g.P.Process.taken l.process);
  interrupted : AreInterrupted g.P.Process.fails l.fn.process l._try l.process;
}
