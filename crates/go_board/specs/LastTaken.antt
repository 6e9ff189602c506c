-- The stones that the last move of the record took.
use Rattle.std.specs.Prelude.{◌≡◌, ℕ, ◌<◌, ◌↔◌, List, Contains}
use Rattle.std.specs.List.{AllPairs}
use Rattle.go_board.specs.declared.board.Cell.TheVariants.{Empty}
use Rattle.go_board.specs.Board.{at, IsStone}
use Rattle.go_board.specs.Game.{GameRecord, board_of, without_last}

-- The last move took the stone on q: it is on the board of the game without that move, and isn't on the game's board.
-- Where the record has no move these boards are one, so that none is such.
pub record IsTakenByLast (game : GameRecord) (q : ℕ) : Type 0 where
  pub stood : IsStone (at (board_of (without_last game)) q)
  pub gone : at (board_of game) q ≡ Empty

-- The list has the points of these stones, and no other, row by row from A1 and each once.
pub record AreTakenByLast (game : GameRecord) (points : List ℕ) : Type 0 where
  pub each : (q : ℕ) → Contains points q ↔ IsTakenByLast game q
  pub in_order : AllPairs (λ p q. p < q) points

-- the last move took a stone
pub record HasTakenByLast (game : GameRecord) : Type 0 where
  pub point : ℕ
  pub taken : IsTakenByLast game point
