-- How a process is sent `quit` and ended.
use Rattle.std.specs.Prelude.{ℕ, List, Option, None, Some, Result}
use Rattle.std.specs.Io.KnownBytes.{Appends, Keeps}
use Rattle.byte_streams.specs.Parts.{TakesPart}
use Rattle.gtp_wire.specs.declared.commands.Command.TheVariants.{Quit}
use Rattle.gtp_wire.specs.declared.replies.Reply.{Reply}
use Rattle.gtp_wire.specs.declared.replies.ReplyFault.{ReplyFault}
use Rattle.gtp_wire.specs.Commands.{written_command}
use Rattle.gtp_wire.specs.Replies.{IsFirst, GivesNoAnswer}
use Rattle.gtp_process.specs.declared.starter.Ending.{Ending}
use Rattle.gtp_process.specs.declared.starter.Process.{Ghosts}
use Rattle.gtp_process.specs.Pipes.{IsCutOff, IsUnbroken, OutputEnded}

-- `quit`, without an id
abbrev pub quit_line : List ℕ
quit_line = written_command None Quit

-- A reply was waited for: the process was read until its bytes were a reply or a fault; or its output ended
-- before that, or it was cut off. It was sent nothing.
pub data IsAwaited {P : Type 0} (known : Ghosts P) (before after : P) : Type 0 where
  replied : (bytes : List ℕ) (count : ℕ) (answer : Result Reply ReplyFault)
      → Appends (known.given before) (known.given after) bytes → IsFirst bytes count answer
      → IsUnbroken known.fails known.succeeds before after → Keeps (known.taken before) (known.taken after)
      → IsAwaited known before after
  ended : (bytes : List ℕ) → Appends (known.given before) (known.given after) bytes → GivesNoAnswer bytes
      → OutputEnded known.fails known.succeeds known.runs_out before after
      → Keeps (known.taken before) (known.taken after) → IsAwaited known before after
  broke : (bytes : List ℕ) → Appends (known.given before) (known.given after) bytes → GivesNoAnswer bytes
      → IsCutOff known.fails known.succeeds before after → Keeps (known.taken before) (known.taken after)
      → IsAwaited known before after

-- A process was sent `quit`: it took the line, nothing waits to be flushed, and its reply was waited for. Or it took a
-- beginning of the line and was cut off.
pub data IsSentQuit {P : Type 0} (known : Ghosts P) (before after : P) : Type 0 where
  taken : {mid : P} → Appends (known.taken before) (known.taken mid) quit_line
      → IsUnbroken known.fails known.succeeds before mid → known.flushed mid
      → Keeps (known.given before) (known.given mid) → IsAwaited known mid after
      → IsSentQuit known before after
  failed : TakesPart quit_line (known.taken before) (known.taken after)
      → IsCutOff known.fails known.succeeds before after → Keeps (known.given before) (known.given after)
      → IsSentQuit known before after

-- a process was sent `quit`, and then it ended
pub record QuitsAndEnds {P : Type 0} (known : Ghosts P) (before : P) : Type 0 where
  pub after : P
  pub quit : IsSentQuit known before after
  pub ending : Ending
  pub left : known.leaves after ending

-- a process, if there is one, is sent `quit` and ended
abbrev pub QuitsIfAny : {P : Type 0} → Ghosts P → Option P → Type 0
QuitsIfAny known None = Unit {0}
QuitsIfAny known (Some process) = QuitsAndEnds known process
