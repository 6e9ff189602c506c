-- Own eyes: the points that a player who fills at random still leaves empty. (Own: which of them count as eyes.)
--
-- The four diagonals of a point are one column and one row away. Where the point is on the edge of the board, some of
-- them are no points, and hold edge.
use Rattle.std.specs.Prelude.{◌≡◌, ℕ, ◌+◌, ◌⊎◌, List}
use Rattle.go_base.specs.Colour.{other}
use Rattle.go_base.specs.Point.{Neighbours}
use Rattle.go_base.specs.declared.colours.Colour.{Colour}
use Rattle.go_board.specs.declared.board.Cell.{Cell}
use Rattle.go_board.specs.declared.board.Cell.TheVariants.{Edge, Empty}
use Rattle.go_board.specs.Board.{at, stone}

-- two places are diagonal to each other on the mailbox board: one is above the other, and right or left of it
abbrev pub Diagonal : ℕ → ℕ → Type 0
Diagonal p q = (q ≡ p + 27) ⊎ (p ≡ q + 27) ⊎ (q ≡ p + 25) ⊎ (p ≡ q + 25)

-- a diagonal of p holds this
abbrev pub HoldsAcross : List Cell → ℕ → Cell → ℕ → Type 0
HoldsAcross board p this q = Diagonal p q × (at board q ≡ this)

-- The point is an own eye of this colour. It is empty, and each neighbour is a stone of the colour or edge. At most one
-- diagonal holds a stone of the other colour, and none where the point is on the edge of the board.
pub record IsOwnEye (board : List Cell) (c : Colour) (p : ℕ) : Type 0 where
  pub empty : at board p ≡ Empty
  pub beside : (q : ℕ) → Neighbours p q → (at board q ≡ stone c) ⊎ (at board q ≡ Edge)
  pub at_most_one : (q r : ℕ) → HoldsAcross board p (stone (other c)) q → HoldsAcross board p (stone (other c)) r
      → q ≡ r
  pub none_at_edge : (q r : ℕ) → HoldsAcross board p Edge q → ¬ HoldsAcross board p (stone (other c)) r
