-- What a reader and a writer show to what speaks with them, and how a text was written. (Own.)
use Rattle.std.specs.Prelude.{◌≡◌, ℕ, Bool, false, List, Option, None}
use Rattle.std.specs.Io.KnownBytes.{Appends}
use Rattle.byte_streams.specs.Counts.{raised}
use Rattle.byte_streams.specs.Parts.{TakesPart}

-- what a reader shows: the bytes that it will give, where they are known, its reads, how many of them gave no byte and
-- how many failed, and how many bytes the last one gave (none where it failed)
pub record Source : Type 0 where
  pub gives : Option (List ℕ)
  pub reads : ℕ
  pub ends : ℕ
  pub failures : ℕ
  pub last : Option ℕ

-- what a writer shows: the bytes that it holds, where they are known, how many of its calls failed, how many bytes the
-- last one took (none where it failed), and whether what it took waits for a flush
pub record Sink : Type 0 where
  pub holds : Option (List ℕ)
  pub failures : ℕ
  pub last : Option ℕ
  pub waiting : Bool

-- The writer took the text whole, and flushed it.
pub record TookWhole (text : List ℕ) (writer writer_now : Sink) : Type 0 where
  pub whole : Appends writer.holds writer_now.holds text
  pub held : writer_now.failures ≡ writer.failures
  pub flushed : writer_now.waiting ≡ false

-- The writer took a beginning of the text. One call of it failed, and that was the last.
pub record TookPart (text : List ℕ) (writer writer_now : Sink) : Type 0 where
  pub part : TakesPart text writer.holds writer_now.holds
  pub failed : writer_now.failures ≡ raised writer.failures 1
  pub last : writer_now.last ≡ None
