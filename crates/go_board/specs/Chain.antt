-- Chains, regions and liberties. (Own rules of play, in Go's words.)
use Rattle.std.specs.Prelude.{◌≡◌, ◌≢◌, ℕ, List}
use Rattle.go_base.specs.Point.{Neighbours}
use Rattle.go_base.specs.declared.colours.Colour.{Colour}
use Rattle.go_board.specs.Board.{at, stone}
use Rattle.go_board.specs.declared.board.Cell.{Cell}
use Rattle.go_board.specs.declared.board.Cell.TheVariants.{Edge, Empty}

-- A path leads from p to q: each of its points is a neighbour of the one before, none is edge, and all hold what p
-- holds. Stones are then of one colour and of one chain, and empty points of one region.
pub data Joined (board : List Cell) : ℕ → ℕ → Type 0 where
  itself : {p : ℕ} → at board p ≢ Edge → Joined board p p
  by_way_of : {p q : ℕ} (r : ℕ) → at board p ≢ Edge → Neighbours p r → at board r ≡ at board p → Joined board r q
      → Joined board p q

-- some neighbour of p holds this
pub record HasBeside (board : List Cell) (p : ℕ) (this : Cell) : Type 0 where
  pub place : ℕ
  pub neighbours : Neighbours p place
  pub holds : at board place ≡ this

-- the chain or region of p touches this: some point joined to p has a neighbour that holds it
pub record Touches (board : List Cell) (p : ℕ) (this : Cell) : Type 0 where
  pub point : ℕ
  pub joined : Joined board p point
  pub beside : HasBeside board point this

-- the chain of the stone on p has a liberty: an empty point beside one of its stones
abbrev pub IsFree : List Cell → ℕ → Type 0
IsFree board p = Touches board p Empty

-- p holds a stone of this colour, and its chain has no liberty
abbrev pub IsCaptured : List Cell → Colour → ℕ → Type 0
IsCaptured board c p = (at board p ≡ stone c) × ¬ IsFree board p
