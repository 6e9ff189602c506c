-- The library itself: its version, and what it says of its causes.
use Rattle.std.specs.Prelude.{◌≡◌, ◌≢◌, ◌⊎◌, ℕ, ◌+◌, ◌*◌, List, codes}
use Rattle.vintsaky_calls.specs.Codes.{cause_code, NoCause}
use Rattle.vintsaky_calls.specs.Texts.{Writes}
use Rattle.vintsaky_calls.specs.declared.causes.Cause.{Cause}
use Rattle.vintsaky_calls.specs.declared.causes.Cause.TheVariants as cause

-- version 1.0.0: 65,536 times the first number, 256 times the second, and the third
abbrev pub library_version : ℕ
library_version = 65536 * 1 + 256 * 0 + 0

-- the sentence of each cause
abbrev pub sentence : Cause → List ℕ
sentence cause.BadColour = codes "Not a colour or side: use 1 (Black) or 2 (White)."
sentence cause.BadVertex =
    codes "Not a vertex: use 256 times the row plus the column, each 1 to 25, or 0 (a pass) where allowed."
sentence cause.BadRule = codes "Not a ko rule: use 1 (simple ko) or 2 (positional superko)."
sentence cause.BadSize = codes "The size must be 1 to 25."
sentence cause.BadKomi = codes "The komi must be -1,999,999,999 to 1,999,999,999 half points."
sentence cause.BadText = codes "The text can't be parsed, or isn't allowed in a reply."
sentence cause.NoRoom = codes "A buffer or array is shorter than the call needs."
sentence cause.Full = codes "The record is full: it has 2,000 moves, the maximum."
sentence cause.OffBoard = codes "The point isn't on a board of this size."
sentence cause.Occupied = codes "A stone is on the point."
sentence cause.Suicide = codes "The new stone's chain would have no liberty."
sentence cause.Ko = codes "The move would repeat a board that the ko rule forbids."
sentence cause.NothingToUndo = codes "The record has no move to undo."
sentence cause.NotEmpty = codes "The board and the record must be empty."
sentence cause.BadHandicap =
    codes "Odd sizes from 9 allow 2 to 9 stones, 7 and even sizes from 8 allow 2 to 4; never a negative number."
sentence cause.NoMove = codes "The record has no move with this number, counted from 0."
sentence cause.NoStone = codes "No stone is on the point."
sentence cause.NotAsked = codes "The engine is waiting for nothing, or for something that this call doesn't supply."
sentence cause.NoWord = codes "The line has no word with this number, counted from 0 after the id."
sentence cause.NoId = codes "The line or the reply has no id."
sentence cause.BadLength = codes "A name must have 1 to 32 bytes."
sentence cause.BadByte = codes "A name may have only bytes 33 to 126, except #."
sentence cause.OnlyDigits = codes "A name can't have only digits, as an id has."
sentence cause.InTable = codes "The protocol already has a command of this name."
sentence cause.AddedBefore = codes "A custom command of this name was already added."
sentence cause.TooMany = codes "The engine already has 32 custom commands, the maximum."
sentence cause.BadMaxMoves = codes "The move limit must be 1 to 2,000."
sentence cause.BadMaxRestarts = codes "The restart limit must be 0 to 1,000."
sentence cause.NotNext = codes "Not the call that the match expects next."
sentence cause.NotOver = codes "The match is not over yet."
sentence cause.NoLine = codes "No command line was read, or the last one was too long."
sentence cause.BadCommand = codes "Not a command: use 1 to 8."
sentence cause.BadId = codes "The id must be 0 to 2,147,483,647, or -1 for none."
sentence cause.Down = codes "The side isn't up (it was not started, or it went down), or the match is over."
sentence cause.IsOver = codes "The match is already over."
sentence cause.BadReason =
    codes "A reason must be empty (loss on time), or 1 to 20 letters (a-z, A-Z) and spaces; not a forfeit's cause."

-- what is said of a number: that it was done, what a cause means, or that the number is none
abbrev pub SaysDone : ℕ → List ℕ → Type 0
SaysDone number said = (number ≡ 0) × (said ≡ codes "No error.")

abbrev pub SaysCause : ℕ → List ℕ → Type 0
SaysCause number said = (why : Cause) × (number ≡ cause_code why) × (said ≡ sentence why)

abbrev pub SaysNone : ℕ → List ℕ → Type 0
SaysNone number said = (number ≢ 0) × NoCause number × (said ≡ codes "Unknown error number.")

-- just one of these, by the number
abbrev pub Says : ℕ → List ℕ → Type 0
Says number said = SaysDone number said ⊎ (SaysCause number said ⊎ SaysNone number said)

-- what is said of a number is put into the buffer
pub record CauseTextCall (number : ℕ) (old new : List ℕ) (count : ℕ) : Type 0 where
  pub said : List ℕ
  pub says : Says number said
  pub writes : Writes said old new count
