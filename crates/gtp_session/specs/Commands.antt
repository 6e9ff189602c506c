-- The engine's commands, and what each of them does to the game and answers.
use Rattle.std.specs.Prelude.{◌≡◌, ℕ, ℤ, Bool, true, false, ◌&&◌, nat_le, List, [], ◌∷◌, length, map, find, slice_get}
use Rattle.std.specs.Prelude.{Option, Some, None, is_some, option_and_then, if◌then◌else◌, codes}
use Rattle.std.specs.List.{join_with_byte}
use Rattle.std.specs.Str.{bytes_eq}
use Rattle.go_base.specs.Bytes.{newline}
use Rattle.go_base.specs.Int.{int_of, written_int}
use Rattle.go_base.specs.Size.{most_size}
use Rattle.go_base.specs.Colour.{colour_of}
use Rattle.go_base.specs.Vertex.{vertex_of, written_vertex, written_vertices}
use Rattle.go_base.specs.Komi.{komi_of}
use Rattle.go_base.specs.HalfPoints.{score_text}
use Rattle.go_base.specs.Handicap.{handicap_points}
use Rattle.go_base.specs.declared.colours.Colour.{Colour}
use Rattle.go_base.specs.declared.moves.Move.{Move}
use Rattle.go_base.specs.declared.vertices.Vertex.{Vertex}
use Rattle.go_board.specs.Game.{GameRecord, most_moves, with_move, without_last}
use Rattle.go_board.specs.decisions.Game.{legal?, touched?}
use Rattle.go_base.specs.Decide.{allows?}
use Rattle.go_board.specs.Show.{board_text}
use Rattle.go_board.specs.Area.{score}
use Rattle.gtp_wire.specs.declared.lines.Line.{Line}
use Rattle.gtp_wire.specs.declared.lines.Line.TheVariants as line
use Rattle.go_base.specs.declared.choices.Choice.{Choice}
use Rattle.go_base.specs.declared.choices.Choice.TheVariants as choice
use Rattle.gtp_session.specs.declared.commands.CommandName.{CommandName}
use Rattle.gtp_session.specs.declared.commands.CommandName.TheVariants as command

-- A command's name. (The standard, administrative, setup, core play and debug commands.)
abbrev pub spelled : CommandName → List ℕ
spelled command.ProtocolVersion = codes "protocol_version"
spelled command.Name = codes "name"
spelled command.Version = codes "version"
spelled command.KnownCommand = codes "known_command"
spelled command.ListCommands = codes "list_commands"
spelled command.Quit = codes "quit"
spelled command.Boardsize = codes "boardsize"
spelled command.ClearBoard = codes "clear_board"
spelled command.Komi = codes "komi"
spelled command.Play = codes "play"
spelled command.Genmove = codes "genmove"
spelled command.FixedHandicap = codes "fixed_handicap"
spelled command.Undo = codes "undo"
spelled command.FinalScore = codes "final_score"
spelled command.Showboard = codes "showboard"

-- all of them, in the order in which `list_commands` names them (own)
abbrev pub all_commands : List CommandName
all_commands =
    command.ProtocolVersion ∷ command.Name ∷ command.Version ∷ command.KnownCommand ∷ command.ListCommands
    ∷ command.Quit ∷ command.Boardsize ∷ command.ClearBoard ∷ command.Komi ∷ command.Play ∷ command.Genmove
    ∷ command.FixedHandicap ∷ command.Undo ∷ command.FinalScore ∷ command.Showboard ∷ []

-- their names, one per row (the standard, administrative commands: list_commands)
abbrev pub all_names : List ℕ
all_names = join_with_byte newline (map spelled all_commands)

-- the command of this name, where there is one; case matters
abbrev pub command_named : List ℕ → Option CommandName
command_named word = find (λ named. bytes_eq (spelled named) word) all_commands

-- What is answered to a line: the game after it, success or failure, and the text of the reply. (The standard, response
-- structure.)
pub record Answer : Type 0 where
  pub game : GameRecord
  pub ok : Bool
  pub text : List ℕ

-- a success that leaves this game
abbrev pub succeeds : GameRecord → List ℕ → Answer
succeeds game text = record { game = game; ok = true; text = text }

-- a failure, which leaves the game as it was
abbrev pub fails : GameRecord → List ℕ → Answer
fails game text = record { game = game; ok = false; text = text }

-- a missing argument, or one that can't be read
abbrev pub syntax_error : GameRecord → Answer
syntax_error game = fails game (codes "syntax error")

-- A word of a line that is read as a value, where there is one: word 0 is the command's name, and its arguments are the
-- words from 1 on. Surplus arguments are ignored (own).
abbrev pub argument : {V : Type 0} → (List ℕ → Option V) → List (List ℕ) → ℕ → Option V
argument value_of words number = option_and_then value_of (slice_get words number)

-- ---- rows

-- What the policy chooses for a colour: a vertex is played and answered; a resignation changes nothing.
abbrev pub answer_choice : GameRecord → Colour → Choice → Answer
answer_choice game colour choice.Resign = succeeds game (codes "resign")
answer_choice game colour (choice.Play vertex) = succeeds (with_move game colour vertex) (written_vertex vertex)

-- What a command does where nothing is against it, with its arguments: it leaves a game and answers a text; or it asks
-- the policy for a colour, and makes the move that this chooses.
pub data Effect (A : Type 0) : Type 0 where
  leaves : (GameRecord → A → GameRecord) → (GameRecord → A → List ℕ) → Effect A
  asks : (A → Colour) → Effect A

-- The row of a command. `A` is what its arguments are.
pub record Row (A : Type 0) : Type 0 where
  -- its arguments, where the words of a line have them and they can be read
  pub read : List (List ℕ) → Option A
  -- why the game refuses it with these arguments: the first cause, if there is one
  pub refusal : GameRecord → A → Option (List ℕ)
  -- what it does otherwise
  pub effect : Effect A

-- a command that answers a text of the game, and changes nothing
abbrev pub query : (GameRecord → List ℕ) → Row (Unit {0})
query text = record {
  read = λ words. Some tt;
  refusal = λ game arguments. None;
  effect = leaves (λ game arguments. game) (λ game arguments. text game);
}

-- a command that changes the game, and answers no text
abbrev pub change : {A : Type 0} → (List (List ℕ) → Option A) → (GameRecord → A → Option (List ℕ))
    → (GameRecord → A → GameRecord) → Row A
change read refusal after = record {
  read = read;
  refusal = refusal;
  effect = leaves after (λ game arguments. []);
}

abbrev pub answer_of_effect : {A : Type 0} → Effect A → GameRecord → A → Choice → Answer
answer_of_effect (leaves after text) game arguments choice = succeeds (after game arguments) (text game arguments)
answer_of_effect (asks colour) game arguments choice = answer_choice game (colour arguments) choice

-- with this cause against it, or none
abbrev pub answer_unless : {A : Type 0} → Option (List ℕ) → Effect A → GameRecord → A → Choice → Answer
answer_unless None effect game arguments choice = answer_of_effect effect game arguments choice
answer_unless (Some cause) effect game arguments choice = fails game cause

-- What a row answers to its arguments, where they are read; `choice` is what the policy chooses where it is asked.
abbrev pub answer_by : {A : Type 0} → Row A → GameRecord → Option A → Choice → Answer
answer_by row game None choice = syntax_error game
answer_by row game (Some arguments) choice =
    answer_unless (row.refusal game arguments) row.effect game arguments choice

abbrev pub asked_unless : Option (List ℕ) → Colour → Option Colour
asked_unless None colour = Some colour
asked_unless (Some cause) colour = None

abbrev pub asked_by_effect : {A : Type 0} → Effect A → (A → Option (List ℕ)) → Option A → Option Colour
asked_by_effect (leaves after text) refusal arguments = None
asked_by_effect (asks colour) refusal None = None
asked_by_effect (asks colour) refusal (Some arguments) = asked_unless (refusal arguments) (colour arguments)

-- the colour for which a row asks the policy, where it does: its arguments are read, and nothing is against them
abbrev pub asked_by : {A : Type 0} → Row A → GameRecord → Option A → Option Colour
asked_by row game arguments = asked_by_effect row.effect (row.refusal game) arguments

-- ---- what is against a command

-- why a size is refused: it is not 1 to 25
abbrev pub size_refusal : ℕ → Option (List ℕ)
size_refusal size = if nat_le 1 size && nat_le size most_size then None else Some (codes "unacceptable size")

-- why a move is refused before it is known: the record has no room for one
abbrev pub full_refusal : GameRecord → Option (List ℕ)
full_refusal game = if nat_le most_moves (length game.moves) then Some (codes "record full") else None

-- why a move is refused: the record has no room for it, or else it is not legal
abbrev pub move_refusal : GameRecord → Move → Option (List ℕ)
move_refusal game move =
    if nat_le most_moves (length game.moves) then Some (codes "record full")
    else elim (legal? game move.colour move.vertex) [ yes _ ↦ None | no _ ↦ Some (codes "illegal move") ]

-- why handicap stones are refused: a stone is on the board or a move in the record, or else the size does not allow
-- that number of them
abbrev pub handicap_refusal : GameRecord → ℕ → Option (List ℕ)
handicap_refusal game stones =
    elim (touched? game) [
      | yes _ ↦ Some (codes "board not empty")
      | no _ ↦ elim (allows? game.size stones) [ yes _ ↦ None | no _ ↦ Some (codes "invalid number of stones") ]
    ]

-- why `undo` is refused: there is no move to take back
abbrev pub undo_refusal : GameRecord → Option (List ℕ)
undo_refusal game = if nat_le 1 (length game.moves) then None else Some (codes "cannot undo")

-- ---- the table

-- what the arguments of a command are; most take none
abbrev pub Arguments : CommandName → Type 0
Arguments command.KnownCommand = List ℕ
Arguments command.Boardsize = ℕ
Arguments command.Komi = ℤ
Arguments command.Play = Move
Arguments command.Genmove = Colour
Arguments command.FixedHandicap = ℕ
Arguments _ = Unit {0}

abbrev pub move_of : Option Colour → Option Vertex → Option Move
move_of None vertex = None
move_of (Some colour) None = None
move_of (Some colour) (Some vertex) = Some (record { colour = colour; vertex = vertex })

-- A new size, and `clear_board`, empty the board, the handicap, the record and the captures. Komi stays, and no command
-- changes the ko rule.
abbrev pub row_of : (named : CommandName) → Row (Arguments named)
row_of command.ProtocolVersion = query (λ game. written_int 2)
row_of command.Name = query (λ game. codes "stepgo")
row_of command.Version = query (λ game. codes "1.0")
row_of command.KnownCommand = record {
  read = λ words. argument Some words 1;
  refusal = λ game word. None;
  effect = leaves (λ game word. game)
      (λ game word. if is_some (command_named word) then codes "true" else codes "false");
}
row_of command.ListCommands = query (λ game. all_names)
row_of command.Quit = query (λ game. [])
row_of command.Boardsize = change (λ words. argument int_of words 1) (λ game size. size_refusal size)
    (λ game size. record game { size = size; handicap = 0; moves = [] })
row_of command.ClearBoard = change (λ words. Some tt) (λ game arguments. None)
    (λ game arguments. record game { handicap = 0; moves = [] })
row_of command.Komi = change (λ words. argument komi_of words 1) (λ game komi. None)
    (λ game komi. record game { komi = komi })
row_of command.Play = change (λ words. move_of (argument colour_of words 1) (argument vertex_of words 2)) move_refusal
    (λ game move. with_move game move.colour move.vertex)
row_of command.Genmove = record {
  read = λ words. argument colour_of words 1;
  refusal = λ game colour. full_refusal game;
  effect = asks (λ colour. colour);
}
row_of command.FixedHandicap = record {
  read = λ words. argument int_of words 1;
  refusal = handicap_refusal;
  effect = leaves (λ game stones. record game { handicap = stones })
      (λ game stones. written_vertices (handicap_points game.size stones));
}
row_of command.Undo = change (λ words. Some tt) (λ game arguments. undo_refusal game)
    (λ game arguments. without_last game)
row_of command.FinalScore = query (λ game. score_text (score game))
row_of command.Showboard = query board_text

-- ---- every command

-- Each command with the words of its line, and with what the policy chooses where it is asked.
abbrev pub answer_to : GameRecord → CommandName → List (List ℕ) → Choice → Answer
answer_to game named words choice = answer_by (row_of named) game ((row_of named).read words) choice

-- the command answers so to these words, whatever a policy would choose
abbrev pub IsAnswerTo : GameRecord → CommandName → List (List ℕ) → Answer → Type 0
IsAnswerTo game named words given = (choice : Choice) → given ≡ answer_to game named words choice

-- a command that is named, or an unknown one (the standard, standard error messages)
abbrev pub answer_to_named : GameRecord → Option CommandName → List (List ℕ) → Choice → Answer
answer_to_named game (Some named) words choice = answer_to game named words choice
answer_to_named game None words choice = fails game (codes "unknown command")

-- the command that the words of a line name, where they name one
abbrev pub named_command : List (List ℕ) → Option CommandName
named_command words = argument command_named words 0

-- the words of a line after its id; a line with an id alone is an unknown command (own)
abbrev pub answer_to_words : GameRecord → List (List ℕ) → Choice → Answer
answer_to_words game words choice = answer_to_named game (named_command words) words choice

-- a line; one that is too long is a syntax error (own)
abbrev pub answer : GameRecord → Line → Choice → Answer
answer game line.TooLong choice = syntax_error game
answer game (line.Command command_line) choice = answer_to_words game command_line.words choice

-- the command that a line names, where it names one; a line that is too long names none
abbrev pub command_of : Line → Option CommandName
command_of line.TooLong = None
command_of (line.Command command_line) = named_command command_line.words

-- the id that the reply repeats; a line that is too long has none (own)
abbrev pub id_of : Line → Option ℕ
id_of line.TooLong = None
id_of (line.Command command_line) = command_line.id

-- whether there is a command, and it has this name
abbrev pub has_name : List ℕ → Option CommandName → Bool
has_name word None = false
has_name word (Some named) = bytes_eq (spelled named) word

-- whether the session ends with the line: it is a `quit`
abbrev pub ends : Line → Bool
ends line.TooLong = false
ends (line.Command command_line) = has_name (codes "quit") (named_command command_line.words)

-- whether the line is a `genmove`
abbrev pub is_genmove_line : Line → Bool
is_genmove_line line.TooLong = false
is_genmove_line (line.Command command_line) = has_name (codes "genmove") (named_command command_line.words)

-- the colour for which a command asks the policy, where it does
abbrev pub asked_by_command : GameRecord → CommandName → List (List ℕ) → Option Colour
asked_by_command game named words = asked_by (row_of named) game ((row_of named).read words)

abbrev pub asked_by_named : GameRecord → Option CommandName → List (List ℕ) → Option Colour
asked_by_named game (Some named) words = asked_by_command game named words
asked_by_named game None words = None

abbrev pub asked_by_words : GameRecord → List (List ℕ) → Option Colour
asked_by_words game words = asked_by_named game (named_command words) words

-- The colour for which the line asks the policy: it is a `genmove` with a colour, and the record isn't full. No other
-- line asks it.
abbrev pub asked : GameRecord → Line → Option Colour
asked game line.TooLong = None
asked game (line.Command command_line) = asked_by_words game command_line.words
