-- What is asked round an own eye.
use Rattle.std.specs.Prelude.{◌≡◌, ℕ, ◌⊎◌, List}
use Rattle.go_base.specs.declared.colours.Colour.{Colour}
use Rattle.go_board.specs.Board.{at, stone}
use Rattle.go_board.specs.Eye.{HoldsAcross}
use Rattle.go_board.specs.declared.board.Cell.{Cell}
use Rattle.go_board.specs.declared.board.Cell.TheVariants.{Edge}

-- the place is a stone of this colour or edge
abbrev pub IsOwnOrEdge : List Cell → Colour → ℕ → Type 0
IsOwnOrEdge board c q = (at board q ≡ stone c) ⊎ (at board q ≡ Edge)

-- at most one diagonal of the point holds this stone, and none where one is edge
pub record AreFewAcross (board : List Cell) (this : Cell) (p : ℕ) : Type 0 where
  pub at_most_one : (q r : ℕ) → HoldsAcross board p this q → HoldsAcross board p this r → q ≡ r
  pub none_at_edge : (q r : ℕ) → HoldsAcross board p Edge q → ¬ HoldsAcross board p this r
