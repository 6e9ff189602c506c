-- The calls of a reader of command lines.
use Rattle.std.specs.Prelude.{◌≡◌, ◌⊎◌, ℕ, List, [], length, Option, Some, None, slice_get, nat_eq, if◌then◌else◌}
use Rattle.std.specs.Prelude.{OnOk, OnErr, IfErr}
use Rattle.gtp_wire.specs.Lines.{ReadsLine}
use Rattle.gtp_wire.specs.Words.{CommandWords}
use Rattle.gtp_wire.specs.declared.lines.Line.{Line}
use Rattle.gtp_wire.specs.declared.lines.Line.TheVariants as line
use Rattle.vintsaky_calls.specs.Codes.{CallResult}
use Rattle.vintsaky_calls.specs.Texts.{Puts}
use Rattle.vintsaky_calls.specs.declared.causes.Cause.{Cause}
use Rattle.vintsaky_calls.specs.declared.causes.Cause.TheVariants as cause
use Rattle.vintsaky_calls.specs.declared.lines.Lines.{Lines}

-- a reader that was given nothing
abbrev pub fresh_lines : Lines
fresh_lines = record { reader = []; line = line.TooLong }

-- the number of a line that was read
abbrev pub line_code : Line → ℕ
line_code (line.Command words) = 1
line_code line.TooLong = 2

-- the line that was read last, unless the number is 0
abbrev pub line_unless : ℕ → Line → Option Line
line_unless number read = if nat_eq number 0 then None else Some read

-- A chunk is read. The number is that of the line that was read; or it is 0, none was, and the line before stays.
pub record FeedCall (input : List ℕ) (old new : Lines) (used number : ℕ) : Type 0 where
  pub reads : ReadsLine old.reader input used (line_unless number new.line) new.reader
  pub kind : (number ≡ 0) ⊎ (number ≡ line_code new.line)
  pub kept : number ≡ 0 → new.line ≡ old.line

-- the words of the command line that was read last
abbrev pub IsRead : Line → CommandWords → Type 0
IsRead read words = read ≡ line.Command words

-- no command line was read last
abbrev pub IsNoLine : Line → Type 0
IsNoLine read = (words : CommandWords) → ¬ IsRead read words

-- a word of the line that was read last is put into the caller's buffer
pub record PutsLineWord (read : Line) (number : ℕ) (old new : List ℕ) (count : ℕ) : Type 0 where
  pub line : CommandWords
  pub word : List ℕ
  pub is_read : IsRead read line
  pub is : slice_get line.words number ≡ Some word
  pub puts : Puts word old new
  pub count_is : count ≡ length word

-- why none is
abbrev pub LacksLineWord : Line → ℕ → Cause → Type 0
LacksLineWord read number cause.NoLine = IsNoLine read
LacksLineWord read number cause.NoWord =
    (line : CommandWords) × IsRead read line × (slice_get line.words number ≡ None)
LacksLineWord read number _ = ⊥

-- A word of the line that was read last is put into the buffer; or there is none, and nothing is written.
pub record WordCall (read : Line) (number : ℕ) (old new : List ℕ) (count_old count_new : ℕ) (made : CallResult)
    : Type 0 where
  pub found : OnOk made (PutsLineWord read number old new count_new)
  pub kept : OnErr made ((new ≡ old) × (count_new ≡ count_old))
  pub why : IfErr made (LacksLineWord read number)

-- the id of the line that was read last
pub record HasLineId (read : Line) (id : ℕ) : Type 0 where
  pub line : CommandWords
  pub is_read : IsRead read line
  pub is : line.id ≡ Some id

-- why there is none
abbrev pub LacksLineId : Line → Cause → Type 0
LacksLineId read cause.NoLine = IsNoLine read
LacksLineId read cause.NoId = (line : CommandWords) × IsRead read line × (line.id ≡ None)
LacksLineId read _ = ⊥

-- The id of the line that was read last is found; or there is none, and nothing is written.
pub record IdCall (read : Line) (old new : ℕ) (made : CallResult) : Type 0 where
  pub found : OnOk made (HasLineId read new)
  pub kept : OnErr made (new ≡ old)
  pub why : IfErr made (LacksLineId read)
