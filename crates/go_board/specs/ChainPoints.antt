-- The stones of a chain, and its liberties.
use Rattle.std.specs.Prelude.{ℕ, ◌<◌, ◌↔◌, List, Contains}
use Rattle.std.specs.List.{AllPairs}
use Rattle.go_board.specs.Board.{at, IsStone}
use Rattle.go_board.specs.Chain.{Joined}
use Rattle.go_board.specs.Liberties.{IsLiberty}
use Rattle.go_board.specs.declared.board.Cell.{Cell}

-- The list has the stones of the chain of the stone on p, and no other point, row by row from A1 and each once. Where p
-- holds no stone it has none.
pub record AreChainPoints (board : List Cell) (p : ℕ) (points : List ℕ) : Type 0 where
  pub each : (q : ℕ) → Contains points q ↔ (IsStone (at board p) × Joined board p q)
  pub in_order : AllPairs (λ q r. q < r) points

-- The list has the liberties of the chain of the stone on p, and no other point, row by row from A1 and each once.
-- Where p holds no stone it has none.
pub record AreChainLiberties (board : List Cell) (p : ℕ) (points : List ℕ) : Type 0 where
  pub each : (q : ℕ) → Contains points q ↔ (IsStone (at board p) × IsLiberty board p q)
  pub in_order : AllPairs (λ q r. q < r) points
