-- Boards. (Own: the standard leaves to the engine how it keeps one.)
--
-- A board is the list of what its places hold. The places are numbered as points are, row by row from the bottom with
-- 26 places to a row: the point of a column and a row is the place 26 * row + column. A place that is no point of the
-- board's size holds edge, so each neighbour of a point is a place of the list too.
use Rattle.std.specs.Prelude.{◌≡◌, ℕ, ◌&&◌, nat_le, if◌then◌else◌, Bool, List, map, slice_index_or, slice_set, Option}
use Rattle.std.specs.Prelude.{Some, None}
use Rattle.std.specs.List.{range_with_len, fold}
use Rattle.go_base.specs.Point.{column_of, row_of}
use Rattle.go_base.specs.declared.colours.Colour.{Colour}
use Rattle.go_base.specs.declared.colours.Colour.TheVariants as colour
use Rattle.go_board.specs.declared.board.Cell.{Cell}
use Rattle.go_board.specs.declared.board.Cell.TheVariants.{Edge, Empty, Black, White}

-- how many places a board has: 27 rows of 26
abbrev pub place_count : ℕ
place_count = 702

-- what a place holds; past the end of the list there is edge
abbrev pub at : List Cell → ℕ → Cell
at board p = slice_index_or board p Edge

-- a stone of this colour
abbrev pub stone : Colour → Cell
stone colour.Black = Black
stone colour.White = White

-- a stone of either colour
abbrev pub IsStone : Cell → Type 0
IsStone this = (c : Colour) × (this ≡ stone c)

-- the colour of this stone, where it is one
abbrev pub stone_of : Cell → Option Colour
stone_of Black = Some colour.Black
stone_of White = Some colour.White
stone_of Empty = None
stone_of Edge = None

-- the colour of the stone on a place, where there is one
abbrev pub stone_at : List Cell → ℕ → Option Colour
stone_at board p = stone_of (at board p)

-- some place holds a stone
pub record HasStone (board : List Cell) : Type 0 where
  pub place : ℕ
  pub stone : IsStone (at board place)

-- whether a place is a point of a board of this size
abbrev pub is_point : ℕ → ℕ → Bool
is_point size p =
    nat_le 1 (column_of p) && (nat_le (column_of p) size && (nat_le 1 (row_of p) && nat_le (row_of p) size))

-- the board of this size without a stone
unfoldable pub empty_board : ℕ → List Cell
empty_board size = map (λ p. if is_point size p then Empty else Edge) (range_with_len 0 place_count)

-- the board with black stones set on these points, and nothing removed
abbrev pub with_black : List Cell → List ℕ → List Cell
with_black board points = fold (λ b p. slice_set b p Black) board points
