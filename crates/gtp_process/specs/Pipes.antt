-- Calls of a process's pipes: which are tried again, and when a process counts as cut off.
use Rattle.std.specs.Prelude.{ℕ, ◌+◌, ◌==◌, ◌&&◌, nat_lt, Bool, true, false, Result, Ok, Err}
use Rattle.byte_streams.specs.declared.calls.CallFault.{CallFault}
use Rattle.byte_streams.specs.declared.calls.CallFault.TheVariants.{Interrupted, Other}

-- how often one call is made at most, where each is interrupted
abbrev pub most_tries : ℕ
most_tries = 1000000000

-- calls that fail, by the process before, the cause, and the process after
abbrev pub Fails : Type 0 → Type 1
Fails P = P → CallFault → P → Type 0

-- calls that go through, by the process before and after
abbrev pub GoesThrough : Type 0 → Type 1
GoesThrough P = P → P → Type 0

-- This number of calls in a row were interrupted, and led from the one to the other.
pub data AreInterrupted {P : Type 0} (fails : Fails P) (before : P) : ℕ → P → Type 0 where
  no_call : AreInterrupted fails before 0 before
  one_more : {n : ℕ} {mid after : P} → AreInterrupted fails before n mid → fails mid Interrupted after
      → AreInterrupted fails before (n + 1) after

-- Calls in a row led from the one to the other, none of which broke: each went through, or was interrupted.
pub data IsUnbroken {P : Type 0} (fails : Fails P) (succeeds : GoesThrough P) (before : P) : P → Type 0 where
  untouched : IsUnbroken fails succeeds before before
  tried : {mid after : P} → IsUnbroken fails succeeds before mid → fails mid Interrupted after
      → IsUnbroken fails succeeds before after
  went : {mid after : P} → IsUnbroken fails succeeds before mid → succeeds mid after
      → IsUnbroken fails succeeds before after

-- A process was cut off by calls that led from the one to the other. The last call, and none before it, broke. Or none
-- broke, and the last `most_tries` of them were interrupted.
pub data IsCutOff {P : Type 0} (fails : Fails P) (succeeds : GoesThrough P) (before after : P) : Type 0 where
  broke : {mid : P} → IsUnbroken fails succeeds before mid → fails mid Other after
      → IsCutOff fails succeeds before after
  interrupted : {mid : P} → IsUnbroken fails succeeds before mid → AreInterrupted fails mid most_tries after
      → IsCutOff fails succeeds before after

-- calls by which a process's output ended, by the process before and after
abbrev pub RunsOut : Type 0 → Type 1
RunsOut P = P → P → Type 0

-- A process's output ended: calls led from the one to the other, none of which broke, and the last one met the end.
pub data OutputEnded {P : Type 0} (fails : Fails P) (succeeds : GoesThrough P) (runs_out : RunsOut P) (before after : P)
    : Type 0 where
  ran_out : {mid : P} → IsUnbroken fails succeeds before mid → runs_out mid after
      → OutputEnded fails succeeds runs_out before after

-- Whether a call of a pipe shows that it is closed at the other end or fails, by what it returned, asked for so many
-- bytes: it moved none of them, or failed otherwise than by an interruption.
abbrev pub shows_break : ℕ → Result ℕ CallFault → Bool
shows_break asked (Ok count) = count == 0 && nat_lt 0 asked
shows_break asked (Err Interrupted) = false
shows_break asked (Err Other) = true
