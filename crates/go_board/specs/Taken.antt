-- How many stones the moves of a colour have taken.
use Rattle.std.specs.Prelude.{ℕ, ◌+◌, if◌then◌else◌, Bool, true, false, List, [], ◌∷◌}
use Rattle.go_base.specs.declared.colours.Colour.{Colour}
use Rattle.go_base.specs.declared.colours.Colour.TheVariants.{Black, White}
use Rattle.go_base.specs.declared.vertices.Vertex.{Vertex}
use Rattle.go_base.specs.declared.vertices.Vertex.TheVariants.{Pass, At}
use Rattle.go_base.specs.declared.moves.Move.{Move}
use Rattle.go_board.specs.declared.board.Cell.{Cell}
use Rattle.go_board.specs.Play.{captures}
use Rattle.go_board.specs.Game.{GameRecord, start, after}

-- how many stones a move takes: none where it is a pass
abbrev pub captures_of_vertex : List Cell → Colour → Vertex → ℕ
captures_of_vertex board c Pass = 0
captures_of_vertex board c (At p) = captures board c p

-- whether they are one colour
abbrev pub same_colour : Colour → Colour → Bool
same_colour Black Black = true
same_colour White White = true
same_colour Black White = false
same_colour White Black = false

-- how many stones the moves of a colour take, from this board on
abbrev pub taken_from : List Cell → Colour → List Move → ℕ
taken_from board c [] = 0
taken_from board c (move ∷ moves) =
    (if same_colour move.colour c then captures_of_vertex board c move.vertex else 0)
    + taken_from (after board move) c moves

-- how many stones this colour's moves in the record have taken
unfoldable pub taken : GameRecord → Colour → ℕ
taken game c = taken_from (start game.size game.handicap) c game.moves
