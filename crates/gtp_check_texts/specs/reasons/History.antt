-- What earlier moves have to do with a play, in words. (Own.)
use Rattle.std.specs.Prelude.{ℕ, zero, suc, ◌-◌, ◌&&◌, not, Bool, false, List, [], ◌∷◌, length, codes, slice_get, option_map}
use Rattle.std.specs.Prelude.{Option, Some, None, is_some, if◌then◌else◌}
use Rattle.std.specs.List.{concat}
use Rattle.go_base.specs.Decide.{holds}
use Rattle.go_base.specs.Vertex.{written_vertex}
use Rattle.go_base.specs.declared.colours.Colour.{Colour}
use Rattle.go_base.specs.declared.colours.Colour.TheVariants.{Black, White}
use Rattle.go_base.specs.declared.moves.Move.{Move}
use Rattle.go_base.specs.declared.vertices.Vertex.{Vertex}
use Rattle.go_base.specs.declared.vertices.Vertex.TheVariants.{Pass, At}
use Rattle.go_board.specs.Board.{stone_at}
use Rattle.go_board.specs.Game.{GameRecord, board_of, without_last}
use Rattle.go_board.specs.decisions.Game.{legal?}

-- the last move of a game
abbrev pub last_move : GameRecord → Option Move
last_move game = slice_get game.moves (length game.moves - 1)

-- the vertex of the last move of a game
abbrev pub last_vertex : GameRecord → Option Vertex
last_vertex game = option_map (λ move. move.vertex) (last_move game)

-- the capital letter of a colour
abbrev pub colour_letter : Colour → List ℕ
colour_letter Black = codes "B"
colour_letter White = codes "W"

-- ---- what emptied a point

-- the last of the last `count` moves of the game before which there was a stone on the point
unfoldable pub emptied_in : ℕ → GameRecord → ℕ → Option Move
emptied_in zero game p = None
emptied_in (suc count) game p =
    if is_some (stone_at (board_of (without_last game)) p) then last_move game
    else emptied_in count (without_last game) p

-- Where the point is empty: the move that took the stone which was there last, if there was one.
abbrev pub emptied_at : GameRecord → ℕ → Option Move
emptied_at game p = emptied_in (length game.moves) game p

abbrev pub emptied_by : GameRecord → Vertex → Option Move
emptied_by game Pass = None
emptied_by game (At p) = emptied_at game p

-- that it did
abbrev pub emptied_text : Option Move → List ℕ
emptied_text None = []
emptied_text (Some move) = concat (
    codes " since " ∷ colour_letter move.colour ∷ codes " " ∷ written_vertex move.vertex ∷
    codes " took its stone" ∷ [])

-- ---- a pass that lifts a ko

-- the move is legal, and wasn't before the last move of the game
abbrev pub is_now_legal : GameRecord → Move → Bool
is_now_legal game move =
    holds (legal? game move.colour move.vertex) && not (holds (legal? (without_last game) move.colour move.vertex))

-- The last move is a pass, and the play is legal only since then. (A pass leaves the board as it is, so it was a ko that
-- forbade the play.)
abbrev pub is_lifted_after : GameRecord → Move → Option Vertex → Bool
is_lifted_after game move (Some Pass) = is_now_legal game move
is_lifted_after game move _ = false

abbrev pub is_lifted : GameRecord → Move → Bool
is_lifted game move = is_lifted_after game move (last_vertex game)
