-- How many stones a chain has, and how many liberties.
use Rattle.std.specs.Prelude.{◌≡◌, ℕ, List, Some}
use Rattle.go_base.specs.Point.{Neighbours}
use Rattle.go_board.specs.Board.{at, stone_at}
use Rattle.go_board.specs.Chain.{Joined}
use Rattle.go_board.specs.Laws.{IsOfSoMany}
use Rattle.go_board.specs.declared.board.Cell.{Cell}
use Rattle.go_board.specs.declared.board.Cell.TheVariants.{Empty}
use Rattle.go_board.specs.declared.game.searching.Chain.{Chain}

-- q is a liberty of the chain of the stone on p: an empty point that is a neighbour of some stone of the chain
pub record IsLiberty (board : List Cell) (p q : ℕ) : Type 0 where
  pub stone : ℕ
  pub joined : Joined board p stone
  pub neighbours : Neighbours stone q
  pub empty : at board q ≡ Empty

-- The chain of the stone on p: its colour, the number of its stones, and the number of its liberties. A liberty beside
-- more than one of its stones counts once.
pub record IsChainAt (board : List Cell) (p : ℕ) (chain : Chain) : Type 0 where
  pub colour : stone_at board p ≡ Some chain.colour
  pub stones : IsOfSoMany (λ q. Joined board p q) chain.stones
  pub liberties : IsOfSoMany (λ q. IsLiberty board p q) chain.liberties
