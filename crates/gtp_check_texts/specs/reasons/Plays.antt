-- Why a move is legal, in words: what it takes. (Own.)
use Rattle.std.specs.Prelude.{ℕ, ◌==◌, ◌&&◌, nat_lt, List, [], ◌∷◌, ◌++◌, length, take, filter, codes, slice_set}
use Rattle.std.specs.Prelude.{Option, Some, None, Bool, if◌then◌else◌}
use Rattle.std.specs.List.{range_with_len, concat}
use Rattle.go_base.specs.Colour.{other}
use Rattle.go_base.specs.Decide.{holds}
use Rattle.go_base.specs.Int.{written_int}
use Rattle.go_base.specs.Vertex.{written_vertices}
use Rattle.go_base.specs.declared.colours.Colour.{Colour}
use Rattle.go_base.specs.declared.colours.Colour.TheVariants.{Black, White}
use Rattle.go_base.specs.declared.moves.Move.{Move}
use Rattle.go_base.specs.declared.vertices.Vertex.{Vertex}
use Rattle.go_base.specs.declared.vertices.Vertex.TheVariants.{Pass, At}
use Rattle.go_board.specs.Board.{stone}
use Rattle.go_board.specs.Game.{GameRecord, board_of, most_moves}
use Rattle.go_board.specs.Play.{is_captured}
use Rattle.go_board.specs.declared.board.Cell.{Cell}
use Rattle.go_board.specs.decisions.Game.{legal?}
use Rattle.gtp_check_texts.specs.Texts.{text_if}
use Rattle.gtp_check_texts.specs.reasons.History.{emptied_by, emptied_text, is_lifted}

-- whether the move is legal and the record has room for it
abbrev pub may_make : GameRecord → Move → Bool
may_make game move = holds (legal? game move.colour move.vertex) && nat_lt (length game.moves) most_moves

-- The points of the stones that a move takes, row by row from A1: those of the other colour whose chains have no
-- liberty once the new stone is on the board. A pass takes none.
abbrev pub stones_taken : List Cell → Colour → Vertex → List ℕ
stones_taken board c Pass = []
stones_taken board c (At p) =
    filter (is_captured (slice_set board p (stone c)) (other c)) (range_with_len 0 (length board))

-- the same of a move that may be made in this game, and nothing of another
abbrev pub taken_by : GameRecord → Move → Option (List ℕ)
taken_by game move = if may_make game move then Some (stones_taken (board_of game) move.colour move.vertex) else None

-- the name of a colour
abbrev pub colour_name : Colour → List ℕ
colour_name Black = codes "black"
colour_name White = codes "white"

-- after the number of stones
abbrev pub stones_word : ℕ → List ℕ
stones_word many = if many == 1 then codes " stone of " else codes " stones of "

-- of so many stones the points are named
abbrev pub most_named : ℕ
most_named = 6

-- that there are more of them
abbrev pub more_mark : ℕ → List ℕ
more_mark many = if nat_lt most_named many then codes " .." else []

-- why a play is legal that takes nothing, on a point whose last stone this move took, if one did
abbrev pub quiet_text : Option Move → List ℕ
quiet_text taker = concat (
    codes "legal: the point is empty" ∷ emptied_text taker ∷
    codes ", the stone's chain has a liberty then, and no ko forbids it" ∷ [])

-- that a play takes the stones of this colour on these points
abbrev pub captures_text : Colour → List ℕ → List ℕ
captures_text c points = concat (
    codes "legal: it captures " ∷ written_int (length points) ∷ stones_word (length points) ∷ colour_name c ∷
    codes ": " ∷ written_vertices (take most_named points) ∷ more_mark (length points) ∷ [])

-- why a play with this vertex is legal that takes these stones of a colour, if any
abbrev pub taking_text : GameRecord → Colour → Vertex → List ℕ → List ℕ
taking_text game c v points =
    if length points == 0 then quiet_text (emptied_by game v) else captures_text c points

-- why a play is legal, by what it takes where it may be made
abbrev pub play_text : GameRecord → Colour → Vertex → Option (List ℕ) → List ℕ
play_text game c v None = codes "the command succeeds"
play_text game c v (Some points) = taking_text game c v points

-- that a pass lifted the ko
abbrev pub lifted_text : Bool → List ℕ
lifted_text is_so = text_if is_so (codes "; the pass before it lifts the ko")

-- why a play is legal, and whether a pass lifted a ko
abbrev pub at_text : GameRecord → Move → List ℕ
at_text game move =
    play_text game (other move.colour) move.vertex (taken_by game move) ++ lifted_text (is_lifted game move)

-- why a move with this vertex is legal
abbrev pub vertex_text : GameRecord → Move → Vertex → List ℕ
vertex_text game move Pass = codes "legal: a pass always is"
vertex_text game move (At p) = at_text game move

-- why a move is legal
abbrev pub legal_text : GameRecord → Move → List ℕ
legal_text game move = vertex_text game move move.vertex
