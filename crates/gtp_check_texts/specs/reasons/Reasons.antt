-- What decides that an answer is wrong, in one line without a newline. (Own.)
use Rattle.std.specs.Prelude.{ℕ, Bool, false, List, [], ◌∷◌, codes, Option, Some, None}
use Rattle.std.specs.List.{concat}
use Rattle.go_base.specs.Vertex.{written_vertex}
use Rattle.go_base.specs.declared.colours.Colour.{Colour}
use Rattle.go_base.specs.declared.colours.Colour.TheVariants.{Black, White}
use Rattle.go_base.specs.declared.moves.Move.{Move}
use Rattle.go_base.specs.declared.vertices.Vertex.{Vertex}
use Rattle.go_board.specs.Game.{GameRecord}
use Rattle.go_board.specs.Taken.{same_colour}
use Rattle.gtp_check_judge.specs.declared.asking.CheckCommand.{CheckCommand}
use Rattle.gtp_check_judge.specs.declared.asking.CheckCommand.TheVariants.{Match, PlayInFull, GenmoveInFull}
use Rattle.gtp_check_judge.specs.declared.dues.Cause.TheVariants.{BadMove}
use Rattle.gtp_check_judge.specs.declared.judging.Kind.{Kind}
use Rattle.gtp_check_judge.specs.declared.judging.Kind.TheVariants as kind
use Rattle.gtp_wire.specs.declared.commands.Command.{Command}
use Rattle.gtp_wire.specs.declared.commands.Command.TheVariants.{Genmove, Play, Undo}
use Rattle.gtp_check_texts.specs.Texts.{text_if}
use Rattle.gtp_check_texts.specs.reasons.History.{colour_letter, last_move}
use Rattle.gtp_check_texts.specs.reasons.Illegal.{illegal_text}
use Rattle.gtp_check_texts.specs.reasons.Plays.{legal_text}
use Rattle.gtp_check_texts.specs.reasons.Sentences.{command_sentence, kind_sentence, other_sentence}

-- ---- a refusal of what a right engine does

-- that there is a move to take back: the last one
abbrev pub undo_text : Option Move → List ℕ
undo_text None = codes "there is a move to take back"
undo_text (Some move) = concat (
    codes "there is a move to take back: " ∷ colour_letter move.colour ∷ codes " " ∷ written_vertex move.vertex ∷ [])

-- why a right engine takes a command of a match
abbrev pub refused_match : GameRecord → Command → List ℕ
refused_match game (Play move) = legal_text game move
refused_match game Undo = undo_text (last_move game)
refused_match game command = command_sentence command

-- why a right engine takes a command
abbrev pub refused_text : GameRecord → CheckCommand → List ℕ
refused_text game (Match command) = refused_match game command
refused_text game other = other_sentence other

-- ---- a move that was made

-- the move that this colour chose, where its vertex is known
abbrev pub chosen_by : Colour → Option Vertex → Option Move
chosen_by c None = None
chosen_by c (Some v) = Some (record { colour = c; vertex = v })

-- the move that a command makes; a `genmove` makes the one that was chosen
abbrev pub move_of : CheckCommand → Option Vertex → Option Move
move_of (Match (Play move)) chosen = Some move
move_of (Match (Genmove c)) chosen = chosen_by c chosen
move_of (PlayInFull move) chosen = Some move
move_of (GenmoveInFull c) chosen = chosen_by c chosen
move_of _ chosen = None

-- ---- all kinds

-- What decides, by the game before the command, the command, what was wrong, and the vertex that was chosen where one
-- was: what a move takes, which stone it is that may not be taken back, or the rule.
abbrev pub reason : GameRecord → CheckCommand → Kind → Option Vertex → List ℕ
reason game command kind.Refused chosen = refused_text game command
reason game command (kind.Took (BadMove fault)) chosen = illegal_text game (move_of command chosen) fault
reason game command (kind.Unlawful fault) chosen = illegal_text game (move_of command chosen) fault
reason game command other chosen = kind_sentence other

-- ---- moves of one colour in a row

-- whether both are known and of one colour
abbrev pub are_of_one_colour : Option Move → Option Move → Bool
are_of_one_colour (Some last) (Some move) = same_colour last.colour move.colour
are_of_one_colour (Some last) None = false
are_of_one_colour None move = false

-- That the colour of a move is no reason to refuse it, by what was wrong with a command in this game: there is such a
-- line where a move was refused, be its colour a letter or in full, and the last move of the game had its colour. (The
-- standard's topic play: by the protocol, moves of one colour in a row are legal.)
abbrev pub in_a_row_line : GameRecord → CheckCommand → Kind → List ℕ
in_a_row_line game command kind.Refused =
    text_if (are_of_one_colour (last_move game) (move_of command None))
    (codes "# the last move was of the same colour: moves of one colour in a row are legal\n")
in_a_row_line game command other = []
