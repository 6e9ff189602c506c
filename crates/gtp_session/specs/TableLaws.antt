-- Laws of the table of the commands: what it must do, in other words than its rows. Names, texts and numbers are here
-- as the page of the protocol has them.
use Rattle.std.specs.Prelude.{◌≡◌, ◌↔◌, ℕ, ◌<◌, Bool, true, false, List, [], ◌∷◌, ◌++◌, length, slice_get, Some, None}
use Rattle.std.specs.Prelude.{codes}
use Rattle.go_base.specs.Colour.{SpellsColour}
use Rattle.go_base.specs.Vertex.{written_vertex}
use Rattle.go_base.specs.declared.choices.Choice.{Choice}
use Rattle.go_base.specs.declared.choices.Choice.TheVariants as choice
use Rattle.go_base.specs.declared.colours.Colour.{Colour}
use Rattle.go_board.specs.Game.{GameRecord, with_move}
use Rattle.gtp_wire.specs.declared.lines.Line.{Line}
use Rattle.gtp_wire.specs.declared.lines.Line.TheVariants as line
use Rattle.gtp_wire.specs.Lines.{lines}
use Rattle.gtp_wire.specs.Replies.{written_reply}
use Rattle.gtp_session.specs.Policy.{May}
use Rattle.gtp_session.specs.Commands.{id_of}
use Rattle.gtp_session.specs.Engine.{Engine, State, WrittenReply, Step, Replies}

-- ---- lines and their arguments

-- the first word is this one
abbrev pub Names : List (List ℕ) → List ℕ → Type 0
Names words name = slice_get words 0 ≡ Some name

-- the first word of a line is this one; a line that is too long has none
abbrev pub LineNames : Line → List ℕ → Type 0
LineNames line.TooLong name = ⊥
LineNames (line.Command command_line) name = Names command_line.words name

-- the word of this number is there, and it spells the value
abbrev pub IsArgument : {V : Type 0} → (V → List ℕ → Type 0) → List (List ℕ) → ℕ → V → Type 0
IsArgument Spells words number value = (word : List ℕ) × (slice_get words number ≡ Some word) × Spells value word

-- the record has room for a move: fewer than 2,000 are in it
abbrev pub TakesMove : GameRecord → Type 0
TakesMove game = length game.moves < 2000

-- ---- replies

-- the reply repeats the line's id, where it has one; a line that is too long has none
abbrev pub RepeatsId : Line → WrittenReply → Type 0
RepeatsId line.TooLong reply = (ok : Bool) × (text : List ℕ) × (reply.text ≡ written_reply ok None text)
RepeatsId (line.Command command_line) reply =
    (ok : Bool) × (text : List ℕ) × (reply.text ≡ written_reply ok command_line.id text)

-- The lines up to and with the first `quit` have one reply each, in order, with their ids; the lines after it
-- have none.
abbrev pub HaveOneReplyEach : List Line → List WrittenReply → Type 0
HaveOneReplyEach [] [] = Unit {0}
HaveOneReplyEach [] (reply ∷ replies) = ⊥
HaveOneReplyEach (line ∷ later) [] = ⊥
HaveOneReplyEach (line ∷ later) (reply ∷ replies) =
    RepeatsId line reply
    × ((LineNames line (codes "quit") → replies ≡ [])
    × ((¬ LineNames line (codes "quit")) → HaveOneReplyEach later replies))

-- an engine whose session goes on answers each line once
abbrev pub EachLineIsAnsweredOnce : {P : Type 0} → May P → Type 0
EachLineIsAnsweredOnce {P} may = (old new : Engine P) (text : List ℕ) (replies : List WrittenReply)
    → old.ended ≡ false → Replies may old text new replies → HaveOneReplyEach (lines (old.rest ++ text)) replies

-- ---- moves that are asked for

-- the line is a `genmove` for this colour, and the record has room for a move
abbrev pub AsksForMove : GameRecord → Line → Colour → Type 0
AsksForMove game line.TooLong colour = ⊥
AsksForMove game (line.Command command_line) colour =
    Names command_line.words (codes "genmove") × IsArgument SpellsColour command_line.words 1 colour × TakesMove game

-- The choice is made for the colour and answered: a resignation leaves the game, and its text is `resign`; a vertex is
-- played, and its text is the vertex.
abbrev pub IsMade : GameRecord → Line → Colour → Choice → GameRecord → WrittenReply → Type 0
IsMade game line colour choice.Resign after reply =
    (after ≡ game) × (reply.text ≡ written_reply true (id_of line) (codes "resign"))
IsMade game line colour (choice.Play vertex) after reply =
    (after ≡ with_move game colour vertex) × (reply.text ≡ written_reply true (id_of line) (written_vertex vertex))

pub record GenmovesAloneCount {P : Type 0} (may : May P) : Type 0 where
  -- a reply counts as one to a `genmove` exactly where its line asks for a move: a `genmove` that fails counts for none
  pub counted : (old new : State P) (line : Line) (reply : WrittenReply) → Step may old line reply new
      → (reply.genmove ≡ true) ↔ ((colour : Colour) × AsksForMove old.game line colour)
  -- there the policy makes a choice for that colour, in the current game, and this choice is made and answered
  pub chosen : (old new : State P) (line : Line) (reply : WrittenReply) (colour : Colour)
      → Step may old line reply new → AsksForMove old.game line colour
      → (choice : Choice) × may old.policy old.game colour choice new.policy
      × IsMade old.game line colour choice new.game reply
  -- every other line leaves the policy as it was
  pub others : (old new : State P) (line : Line) (reply : WrittenReply) → Step may old line reply new
      → ((colour : Colour) → ¬ AsksForMove old.game line colour) → new.policy ≡ old.policy
