use Rattle.std.proofs.Common.{◌≤◌, length}
use Rattle.std.specs.Io.KnownBytes.{Appends, Keeps}
use Rattle.gtp_wire.specs.Replies.{GivesNoAnswer}
use Rattle.gtp_process.specs.Pipes.{IsUnbroken}
use Rattle.gtp_process.proofs.quitting.wait_for_reply.Given as goal

-- The reader holds what the process gave so far, which gives no answer. No call broke, and each read gave a byte.
abbrev pub invariant-loop-read : goal.invariant-loop-read
invariant-loop-read g l = record {
  given : Appends (g.P.Process.given l.fn.process) (g.P.Process.given l.process) l.reader;
  quiet : GivesNoAnswer l.reader;
  unbroken : IsUnbroken g.P.Process.fails g.P.Process.succeeds l.fn.process l.process;
  taken : Keeps (g.P.Process.taken l.fn.process) (g.P.Process.taken l.process);
  many : l._read ≤ length l.reader;
}
