-- What follows from calls one by one, in other words than their relations have.
use Rattle.std.specs.Prelude.{◌≡◌, ◌≤◌, ◌⊎◌, ℕ, true, List, [], ◌∷◌, ◌++◌, length, take, Option, Some, None, Ok}
use Rattle.std.specs.Prelude.{IfSome}
use Rattle.std.specs.List.{join_with_byte, list_all}
use Rattle.go_base.specs.Bytes.{newline, space}
use Rattle.go_base.specs.Int.{most_int}
use Rattle.go_base.specs.declared.colours.Colour.{Colour}
use Rattle.gtp_wire.specs.Commands.{words_of}
use Rattle.gtp_wire.specs.Lines.{lines, SameFuture}
use Rattle.gtp_wire.specs.Words.{CommandWords, id_words, is_written_word, most_line_bytes}
use Rattle.gtp_wire.specs.declared.lines.Line.TheVariants as line
use Rattle.gtp_match.specs.Sides.{side_of}
use Rattle.gtp_match.specs.Sound.{IsSound}
use Rattle.gtp_match.specs.declared.sides.EngineRun.{EngineRun}
use Rattle.gtp_match.specs.declared.unanswered.SentCommand.{SentCommand}
use Rattle.gtp_match.specs.referee.Refereed.{Refereed}
use Rattle.gtp_session.specs.Steps.{StepsState, IsOpen}
use Rattle.gtp_session.specs.declared.events.Wait.TheVariants as wait
use Rattle.vintsaky_calls.specs.Codes.{CallResult, colour_code}
use Rattle.vintsaky_calls.specs.Engines.{AddCommandCall, FeedCall}
use Rattle.vintsaky_calls.specs.Matches.{SendCall}

-- ---- commands of a match

abbrev pub unanswered_by : Option EngineRun → List SentCommand
unanswered_by None = []
unanswered_by (Some engine) = engine.unanswered

-- what a side has unanswered: nothing, where it is down
abbrev pub unanswered_of : Refereed → Colour → List SentCommand
unanswered_of r side = unanswered_by (side_of r.controller.sides side).up

-- One command more is unanswered, and the first bytes of the buffer are its line: whatever is written after them, this
-- line comes first, and then those of what follows.
pub record WroteOneMore (before after : List SentCommand) (text : List ℕ) (count : ℕ) : Type 0 where
  pub entry : SentCommand
  pub more : after ≡ before ++ entry ∷ []
  pub line : (later : List ℕ) → lines (take count text ++ later)
      ≡ line.Command (record { id = Some entry.id; words = words_of entry.command }) ∷ lines later

-- What counts as sent was written: whatever `send` returns, each side has as much unanswered as before, or one command
-- more, which stands in the buffer.
abbrev pub SentWereWritten : Type 0
SentWereWritten =
    (number : ℕ) (old new : Refereed) (text_old text_new : List ℕ) (count_old count_new : ℕ) (made : CallResult)
    (side : Colour) → IsSound old.controller → SendCall number old new text_old text_new count_old count_new made
    → (unanswered_of new side ≡ unanswered_of old side)
    ⊎ WroteOneMore (unanswered_of old side) (unanswered_of new side) text_new count_new

-- What was written counts as sent: where `send` succeeds, the side of its number has one command more unanswered.
abbrev pub WrittenWereSent : Type 0
WrittenWereSent =
    (number : ℕ) (old new : Refereed) (text_old text_new : List ℕ) (count_old count_new : ℕ) → IsSound old.controller
    → SendCall number old new text_old text_new count_old count_new (Ok tt)
    → (side : Colour) × (number ≡ colour_code side)
    × WroteOneMore (unanswered_of old side) (unanswered_of new side) text_new count_new

-- ---- custom commands of an engine

-- the words of a line: its id, where it has one, the name of its command, and its arguments
abbrev pub words_on_line : Option ℕ → List ℕ → List (List ℕ) → List (List ℕ)
words_on_line id name arguments = id_words id ++ name ∷ arguments

-- with single spaces between them, and a newline
abbrev pub line_bytes : Option ℕ → List ℕ → List (List ℕ) → List ℕ
line_bytes id name arguments = join_with_byte space (words_on_line id name arguments) ++ newline ∷ []

-- the id is an int, the arguments are words, and together with the name they are no more than a line may have
pub record IsLineOf (id : Option ℕ) (name : List ℕ) (arguments : List (List ℕ)) : Type 0 where
  pub int : IfSome id (λ n. n ≤ most_int)
  pub words : list_all is_written_word arguments ≡ true
  pub short : length (join_with_byte space (words_on_line id name arguments)) ≤ most_line_bytes

-- The engine waits for its answer to this line, and `feed` says so; its game stays.
pub record WaitsFor (words : CommandWords) (old new : StepsState) (number : ℕ) : Type 0 where
  pub says : number ≡ 3
  pub waits : new.wait ≡ wait.Answer
  pub line_is : new.line ≡ line.Command words
  pub game : new.game ≡ old.game

-- A line of a name that was added waits for its answer: in every engine that goes on, waits for nothing and holds
-- nothing back, whatever its game is.
abbrev pub AddedNamesWait : Type 0
AddedNamesWait =
    (name : List ℕ) (before after : StepsState) → AddCommandCall name before after (Ok tt)
    → (id : Option ℕ) (arguments : List (List ℕ)) → IsLineOf id name arguments
    → (old new : StepsState) (used number : ℕ) → IsOpen old → SameFuture old.rest []
    → FeedCall (line_bytes id name arguments) old new used number
    → WaitsFor (record { id = id; words = name ∷ arguments }) old new number
