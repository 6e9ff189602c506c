-- What a call of `serve` says of its engine, its reader and its writer.
use Rattle.std.specs.Prelude.{◌≡◌, ◌+◌, ◌≤◌, ℕ, true, false, Some, None, Result, Ok, Err}
use Rattle.std.specs.Io.KnownBytes.{IsAtEnd}
use Rattle.gtp_session.specs.declared.fault.Fault.{Fault}
use Rattle.gtp_session.specs.declared.serve.Served.{Served}
use Rattle.gtp_session.specs.declared.serve.Served.TheVariants.{Quit, EndOfInput, Stopped}
use Rattle.gtp_session.specs.declared.serve.ServeFault.{ServeFault}
use Rattle.gtp_session.specs.declared.serve.ServeFault.TheVariants.{Read, Write, TooManyReads}
use Rattle.gtp_session.specs.Policy.{May}
use Rattle.byte_streams.specs.Counts.{raised}
use Rattle.gtp_session.specs.Conversation.{GivesAtLeast, ReadWhileOpen}
use Rattle.byte_streams.specs.Streams.{Source, Sink}
use Rattle.gtp_session.specs.Engine.{Engine}
use Rattle.gtp_session.specs.Faults.{FaultyConversation, StoppedConversation, BrokenFaultyConversation}

-- So many reads were made. None failed, and none met the end of the input.
pub record ReadWell (made : ℕ) (reader reader_now : Source) : Type 0 where
  pub reads : reader_now.reads ≡ raised reader.reads made
  pub ends : reader_now.ends ≡ reader.ends
  pub failures : reader_now.failures ≡ reader.failures

-- So many reads were made. The last, and no other, met the end of the input.
pub record ReadToEnd (made : ℕ) (reader reader_now : Source) : Type 0 where
  pub reads : reader_now.reads ≡ raised reader.reads made
  pub ends : reader_now.ends ≡ raised reader.ends 1
  pub failures : reader_now.failures ≡ reader.failures
  pub last : reader_now.last ≡ Some 0
  pub at_end : IsAtEnd reader_now.gives

-- So many reads were made. The last, and no other, failed.
pub record ReadFailed (made : ℕ) (reader reader_now : Source) : Type 0 where
  pub reads : reader_now.reads ≡ raised reader.reads made
  pub ends : reader_now.ends ≡ reader.ends
  pub failures : reader_now.failures ≡ raised reader.failures 1
  pub last : reader_now.last ≡ None

-- No call of the writer failed, and where nothing waited for a flush, nothing does now.
pub record WentWell (writer writer_now : Sink) : Type 0 where
  pub held : writer_now.failures ≡ writer.failures
  pub flushed : writer.waiting ≡ false → writer_now.waiting ≡ false

-- The last call of the writer, and no other, failed.
pub record WriteFailed (writer writer_now : Sink) : Type 0 where
  pub failed : writer_now.failures ≡ raised writer.failures 1
  pub last : writer_now.last ≡ None

-- The engine held a conversation under the fault, of at most `most` reads, which came out so. `made` is how many reads
-- were made, and `genmoves` how many genmoves succeeded.
pub data CameOut {P : Type 0} (may : May P) (fault : Fault) (most : ℕ) (old new : Engine P)
    (reader reader_now : Source) (writer writer_now : Sink) : Result Served ServeFault → Type 0 where
  -- What the reader gave was answered: the writer took what is written for each reply. Nothing was read after the
  -- `quit`.
  quit : (made genmoves : ℕ) → made ≤ most → ReadWell made reader reader_now → WentWell writer writer_now
      → FaultyConversation may fault old new genmoves reader.gives reader_now.gives writer.holds writer_now.holds
      → new.ended ≡ true
      → (old.ended ≡ false → ReadWhileOpen may old reader.gives reader_now.gives reader_now.last)
      → CameOut may fault most old new reader reader_now writer writer_now (Ok Quit)
  -- What the reader gave was answered. The reads before the last gave at least as many bytes together as there were of
  -- them.
  end_of_input : (before genmoves : ℕ) → before + 1 ≤ most → ReadToEnd (before + 1) reader reader_now
      → WentWell writer writer_now
      → FaultyConversation may fault old new genmoves reader.gives reader_now.gives writer.holds writer_now.holds
      → new.ended ≡ false → GivesAtLeast reader.gives reader_now.gives before
      → CameOut may fault most old new reader reader_now writer writer_now (Ok EndOfInput)
  -- It stopped at the genmove that the fault meets, and nowhere else.
  stopped : (made : ℕ) → made ≤ most → ReadWell made reader reader_now → WentWell writer writer_now
      → StoppedConversation may fault
      old new reader.gives reader_now.gives reader_now.last writer.holds writer_now.holds
      → new.ended ≡ false
      → CameOut may fault most old new reader reader_now writer writer_now (Ok Stopped)
  -- What the reader gave before the read that failed was answered.
  read : (made genmoves : ℕ) → made ≤ most → ReadFailed made reader reader_now → WentWell writer writer_now
      → FaultyConversation may fault old new genmoves reader.gives reader_now.gives writer.holds writer_now.holds
      → new.ended ≡ false
      → CameOut may fault most old new reader reader_now writer writer_now (Err Read)
  -- The writer took a beginning of what is written for the last reply, and nothing further was executed.
  write : (made : ℕ) → made ≤ most → ReadWell made reader reader_now → WriteFailed writer writer_now
      → BrokenFaultyConversation may fault
      old new reader.gives reader_now.gives reader_now.last writer.holds writer_now.holds
      → CameOut may fault most old new reader reader_now writer writer_now (Err Write)
  -- What the reader gave was answered. All reads together gave at least as many bytes as there were reads.
  too_many_reads : (genmoves : ℕ) → ReadWell most reader reader_now → WentWell writer writer_now
      → FaultyConversation may fault old new genmoves reader.gives reader_now.gives writer.holds writer_now.holds
      → new.ended ≡ false → GivesAtLeast reader.gives reader_now.gives most
      → CameOut may fault most old new reader reader_now writer writer_now (Err TooManyReads)
