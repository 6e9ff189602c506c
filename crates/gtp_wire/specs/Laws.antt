-- Laws of lines, commands and replies: what holds of the definitions alone, whatever code reads and writes the bytes.
use Rattle.std.specs.Prelude.{◌≡◌, ◌≢◌, ℕ, ◌+◌, ◌≤◌, true, List, [], ◌∷◌, ◌++◌, length, take, drop, All, Option, Some}
use Rattle.std.specs.Prelude.{None, Result, Ok, IfSome, ◌↔◌, map, codes}
use Rattle.std.specs.List.{concat, join_with_byte, AllPairs}
use Rattle.std.specs.Option.{option_to_list}
use Rattle.go_base.specs.Bytes.{space}
use Rattle.go_base.specs.Int.{most_int}
use Rattle.go_base.specs.Point.{IsOn}
use Rattle.go_base.specs.Size.{most_size}
use Rattle.go_base.specs.Vertex.{IsVertex, written_vertex}
use Rattle.go_base.specs.declared.choices.Choice.TheVariants.{Play, Resign}
use Rattle.go_base.specs.declared.vertices.Vertex.{Vertex}
use Rattle.go_base.specs.declared.vertices.Vertex.TheVariants.{At}
use Rattle.gtp_wire.specs.declared.commands.Command.{Command}
use Rattle.gtp_wire.specs.declared.lines.Line.{Line}
use Rattle.gtp_wire.specs.declared.lines.Line.TheVariants as line
use Rattle.gtp_wire.specs.declared.replies.Reply.{Reply}
use Rattle.gtp_wire.specs.declared.replies.ReplyFault.{ReplyFault}
use Rattle.gtp_wire.specs.Commands.{words_of, written_command, IsWritable, IsInLimits}
use Rattle.gtp_wire.specs.Lines.{lines, Finds}
use Rattle.gtp_wire.specs.ReplyWords.{choice_of_text, names_points, NamesEachOnce}
use Rattle.gtp_wire.specs.Words.{reply_words}
use Rattle.gtp_wire.specs.Replies.{IsWhole, IsReply, IsFirst, GivesNoAnswer, ReadsFirst}

-- ---- lines (the standard, preprocessing and command structure)

-- A chunk is fed until it is used up: each time some bytes of what is left of it are used, and they end a line or none.
pub data IsFed : List ℕ → List ℕ → List Line → List ℕ → Type 0 where
  used_up : {old : List ℕ} → IsFed old [] [] old
  used : {old mid new piece : List ℕ} {found : List Line} (n : ℕ) (line : Option Line)
      → Finds old (take n piece) (option_to_list line) mid → IsFed mid (drop n piece) found new
      → IsFed old piece (option_to_list line ++ found) new

-- Pieces are fed one after the other.
pub data AreFed : List ℕ → List (List ℕ) → List Line → List ℕ → Type 0 where
  all_fed : {old : List ℕ} → AreFed old [] [] old
  fed : {old mid new piece : List ℕ} {pieces : List (List ℕ)} {found more : List Line}
      → IsFed old piece found mid → AreFed mid pieces more new → AreFed old (piece ∷ pieces) (found ++ more) new

-- in whatever chunks a text is fed, its lines are found, and what is held then reads on as the whole text does
abbrev pub AnyPiecesReadAlike : Type 0
AnyPiecesReadAlike = (old : List ℕ) (pieces : List (List ℕ)) (found : List Line) (new : List ℕ)
    → lines old ≡ [] → AreFed old pieces found new
    → (found ≡ lines (old ++ concat pieces)) × Finds old (concat pieces) found new

-- ---- commands (the standard, command structure)

-- A command that is written is, with anything after it, one line of its id and its words, and then the lines of what
-- follows it.
abbrev pub WrittenCommandsAreLines : Type 0
WrittenCommandsAreLines = (id : Option ℕ) (command : Command) (later : List ℕ)
    → IfSome id (λ n. n ≤ most_int) → IsWritable command → IsInLimits command
    → lines (written_command id command ++ later)
    ≡ line.Command (record { id = id; words = words_of command }) ∷ lines later

-- ---- replies (the standard, response structure)

-- in a text one reply or fault comes first, and comes at one byte
abbrev pub OneAnswerComesFirst : Type 0
OneAnswerComesFirst = (text : List ℕ) (count other_count : ℕ) (answer other : Result Reply ReplyFault)
    → IsFirst text count answer → IsFirst text other_count other → (count ≡ other_count) × (answer ≡ other)

-- no reply is a proper front of another
abbrev pub NoReplyBeginsAnother : Type 0
NoReplyBeginsAnother = (raw : List ℕ) (b : ℕ) (more : List ℕ) → IsWhole raw → IsWhole (raw ++ b ∷ more) → ⊥

-- a reply comes first, at its own end, whatever follows it
abbrev pub RepliesComeFirst : Type 0
RepliesComeFirst = (raw later : List ℕ) (value : Reply)
    → IsReply raw value → IsFirst (raw ++ later) (length raw) (Ok value)

-- Pieces are read one after the other, each after what the one before it left, up to and with the first of them that
-- gives an answer. The number counts the bytes of them that are used, in all; after it comes the answer, if
-- anything, and what is held then.
pub data AreRead : List ℕ → List (List ℕ) → ℕ → Option (Result Reply ReplyFault) → List ℕ → Type 0 where
  all_read : {old : List ℕ} → AreRead old [] 0 None old
  quiet : {old mid new : List ℕ} {more : ℕ} {got : Option (Result Reply ReplyFault)}
      (piece : List ℕ) (pieces : List (List ℕ)) (used : ℕ)
      → ReadsFirst old piece used None mid → AreRead mid pieces more got new
      → AreRead old (piece ∷ pieces) (used + more) got new
  is_given : {old new : List ℕ} (piece : List ℕ) (pieces : List (List ℕ)) (used : ℕ) (answer : Result Reply ReplyFault)
      → ReadsFirst old piece used (Some answer) new
      → AreRead old (piece ∷ pieces) used (Some answer) new

-- In whatever chunks a text is read, the same comes first, as many bytes are used, and the same is left as if it
-- were read whole.
abbrev pub AnyPiecesAnswerAlike : Type 0
AnyPiecesAnswerAlike = (old : List ℕ) (pieces : List (List ℕ)) (used : ℕ) (got : Option (Result Reply ReplyFault))
    (new : List ℕ)
    → GivesNoAnswer old → AreRead old pieces used got new → ReadsFirst old (concat pieces) used got new

-- ---- the words of a reply's text (the standard, response structure)

-- Distinct points are named exactly where each word is a vertex on one of them, and each is named once, in any order.
abbrev pub HandicapsAreNamedOnce : Type 0
HandicapsAreNamedOnce =
    (points : List ℕ) (words : List (List ℕ)) → AllPairs (λ p q. p ≢ q) points
    → names_points points words ≡ true ↔ NamesEachOnce points words

-- What is written as a vertex is read as the play of it, and `resign` as the resignation.
pub record WrittenChoicesAreRead : Type 0 where
  pub play : (vertex : Vertex) → IsVertex vertex → choice_of_text (written_vertex vertex) ≡ Some (Play vertex)
  pub resign : choice_of_text (codes "resign") ≡ Some Resign

-- Points that are written as vertices with single spaces between them are named.
abbrev pub WrittenPointsAreNamed : Type 0
WrittenPointsAreNamed = (points : List ℕ) → All (IsOn most_size) points
    → names_points points (reply_words (join_with_byte space (map (λ p. written_vertex (At p)) points))) ≡ true
