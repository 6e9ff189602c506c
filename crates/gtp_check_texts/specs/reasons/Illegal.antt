-- Why a move isn't legal, in words. (Own.)
use Rattle.std.specs.Prelude.{ℕ, ◌+◌, ◌-◌, nat_lt, List, [], ◌∷◌, length, codes, slice_get, option_map}
use Rattle.std.specs.Prelude.{Option, Some, None, if◌then◌else◌}
use Rattle.std.specs.List.{concat}
use Rattle.go_base.specs.Colour.{other}
use Rattle.go_base.specs.Int.{written_int}
use Rattle.go_base.specs.Vertex.{written_vertex}
use Rattle.go_base.specs.declared.colours.Colour.{Colour}
use Rattle.go_base.specs.declared.colours.Colour.TheVariants.{Black, White}
use Rattle.go_base.specs.declared.moves.Move.{Move}
use Rattle.go_base.specs.declared.vertices.Vertex.{Vertex}
use Rattle.go_base.specs.declared.vertices.Vertex.TheVariants.{Pass, At}
use Rattle.go_board.specs.Board.{stone_at}
use Rattle.go_board.specs.Game.{GameRecord, board_of}
use Rattle.go_board.specs.declared.board.Cell.{Cell}
use Rattle.go_board.specs.declared.faults.PlayFault.{PlayFault}
use Rattle.go_board.specs.declared.faults.PlayFault.TheVariants.{Full, OffBoard, Occupied, Suicide, Ko}
use Rattle.go_board.specs.declared.rules.KoRule.{KoRule}
use Rattle.go_board.specs.declared.rules.KoRule.TheVariants.{Simple, Positional}
use Rattle.gtp_check_texts.specs.reasons.History.{last_vertex}
use Rattle.gtp_check_texts.specs.reasons.Plays.{taken_by}

-- ---- a point off the board, or with a stone

-- that a board of this size doesn't have the point
abbrev pub off_board_text : ℕ → List ℕ
off_board_text size = concat (codes "the point is off the board of size " ∷ written_int size ∷ [])

-- the stone on a vertex, where it is a point with one
abbrev pub stone_on : List Cell → Vertex → Option Colour
stone_on board Pass = None
stone_on board (At p) = stone_at board p

-- the stone where a move would put one, if the move is known
abbrev pub stone_where : GameRecord → Option Move → Option Colour
stone_where game None = None
stone_where game (Some move) = stone_on (board_of game) move.vertex

-- that the point isn't empty
abbrev pub occupied_text : Option Colour → List ℕ
occupied_text (Some Black) = codes "the point has a stone of black"
occupied_text (Some White) = codes "the point has a stone of white"
occupied_text None = codes "the point has a stone"

-- ---- suicide

-- the move of the other colour on the same vertex
abbrev pub by_other : Move → Move
by_other move = record { colour = other move.colour; vertex = move.vertex }

-- How many stones the chain of a suicide would have: the new one, and those that the other colour takes where it plays
-- there. (They are its stones, since p is the last liberty of their chains. It isn't known where the other colour may
-- not play there.)
abbrev pub shut_in : GameRecord → Option Move → Option ℕ
shut_in game None = None
shut_in game (Some move) = option_map (λ points. length points + 1) (taken_by game (by_other move))

-- that the move is suicide
abbrev pub suicide_text : Option ℕ → List ℕ
suicide_text None = codes "suicide: the stone's chain would have no liberty"
suicide_text (Some stones) =
    if nat_lt 1 stones then concat (
    codes "suicide: the stone's chain of " ∷ written_int stones ∷ codes " stones would have no liberty" ∷ [])
    else codes "suicide: the stone would have no liberty"

-- ---- ko

-- that the board would be as before the last move, which had this vertex
abbrev pub taker_text : Vertex → List ℕ
taker_text Pass = codes "ko: the board would be as before the last move"
taker_text (At q) = concat (
    codes "ko: " ∷ written_vertex (At q) ∷
    codes " took the stone there in the move before; the board would be as before that move" ∷ [])

-- the same of the last move, if there is one
abbrev pub simple_ko_text : Option Vertex → List ℕ
simple_ko_text (Some v) = taker_text v
simple_ko_text None = codes "ko: the board would be as before the last move"

-- that the ko rule forbids the board
abbrev pub ko_text : GameRecord → KoRule → List ℕ
ko_text game Simple = simple_ko_text (last_vertex game)
ko_text game Positional = codes "positional ko: the board would be one that this game had before"

-- ---- all causes

-- why a move isn't legal, for this cause
abbrev pub illegal_text : GameRecord → Option Move → PlayFault → List ℕ
illegal_text game move Full = codes "the record is full"
illegal_text game move OffBoard = off_board_text game.size
illegal_text game move Occupied = occupied_text (stone_where game move)
illegal_text game move Suicide = suicide_text (shut_in game move)
illegal_text game move Ko = ko_text game game.rule
