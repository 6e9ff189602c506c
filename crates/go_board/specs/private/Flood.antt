-- What a step of a flood does: a list of places grows by one that holds what is sought, or by such neighbours of a
-- place.
use Rattle.std.specs.Prelude.{◌≡◌, ℕ, List, [], ◌∷◌, ◌++◌, All, Contains, ◌⊎◌, ◌↔◌}
use Rattle.go_base.specs.Point.{Neighbours}
use Rattle.go_board.specs.Board.{at}
use Rattle.go_board.specs.declared.board.Cell.{Cell}
use Rattle.go_board.specs.declared.board.Cell.TheVariants.{Empty}

-- with the place, where it holds what is sought
pub record IsSpread (board : List Cell) (sought : Cell) (place : ℕ) (old new : List ℕ) : Type 0 where
  pub has : at board place ≡ sought → Contains new place
  pub was : ((at board place ≡ sought) × (new ≡ old ++ place ∷ [])) ⊎ (new ≡ old)

-- The list grew by neighbours of the place that hold what is sought, and has all of these now.
pub record AreSpread (board : List Cell) (sought : Cell) (place : ℕ) (old new : List ℕ) : Type 0 where
  pub more : List ℕ
  pub new_is : new ≡ old ++ more
  pub are : All (λ r. Neighbours place r × (at board r ≡ sought)) more
  pub all : (r : ℕ) → Neighbours place r → at board r ≡ sought → Contains new r

-- the place is empty, and a neighbour of a listed one
pub record IsEmptyBeside (board : List Cell) (places : List ℕ) (q : ℕ) : Type 0 where
  pub place : ℕ
  pub listed : Contains places place
  pub neighbours : Neighbours place q
  pub empty : at board q ≡ Empty

-- the list has just the empty places beside the places of another list
abbrev pub AreEmptyBeside : List Cell → List ℕ → List ℕ → Type 0
AreEmptyBeside board places found = (q : ℕ) → Contains found q ↔ IsEmptyBeside board places q
