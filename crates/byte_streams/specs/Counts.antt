-- What calls do to the counts of a reader or a writer, and to whether a writer is waiting. (Own.)
use Rattle.std.specs.Prelude.{ℕ, ◌+◌, ◌-◌, ◌^◌, min, nat_lt, Bool, false, ◌||◌, Option, Some, None, Result, Ok, Err}
use Rattle.std.specs.Prelude.{if◌then◌else◌}

-- the greatest value of a count
abbrev pub most : ℕ
most = 2 ^ 64 - 1

-- a count after more calls: it stays at its greatest value
abbrev pub raised : ℕ → ℕ → ℕ
raised count calls = count + min calls (most - count)

-- A reader or a writer of the standard library with its counts: the calls that it read, those of them that found the
-- end, those that failed, how many bytes the last call gave or took, and whether what it took waits for a flush.
pub record Tally (T : Type 0) : Type 0 where
  pub inner : T
  pub reads : ℕ
  pub ends : ℕ
  pub failures : ℕ
  pub last : Option ℕ
  pub waiting : Bool

module _ {T E : Type 0} where
  -- the count of failures after a call with this answer
  abbrev pub failures_after : ℕ → Result T E → ℕ
  failures_after count (Ok _) = count
  failures_after count (Err _) = raised count 1

module _ {E : Type 0} where
  -- the count of reads that gave no byte, after a read with this answer
  abbrev pub ends_after : ℕ → Result ℕ E → ℕ
  ends_after count (Ok given) = if nat_lt 0 given then count else raised count 1
  ends_after count (Err _) = count

  -- how many bytes a read or a write with this answer gave or took; none where it failed
  abbrev pub bytes_moved : Result ℕ E → Option ℕ
  bytes_moved (Ok bytes) = Some bytes
  bytes_moved (Err _) = None

  -- how many bytes a flush with this answer moved: none, and nothing is said where it failed
  abbrev pub moved_by_flush : {T : Type 0} → Result T E → Option ℕ
  moved_by_flush (Ok _) = Some 0
  moved_by_flush (Err _) = None

  -- whether a writer is waiting after a write with this answer: a byte that is taken waits for a flush
  abbrev pub waiting_after_write : Bool → Result ℕ E → Bool
  waiting_after_write waiting (Ok taken) = waiting || nat_lt 0 taken
  waiting_after_write waiting (Err _) = waiting

  -- whether it is waiting after a flush with this answer
  abbrev pub waiting_after_flush : {T : Type 0} → Bool → Result T E → Bool
  waiting_after_flush waiting (Ok _) = false
  waiting_after_flush waiting (Err _) = waiting
