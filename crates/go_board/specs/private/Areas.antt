-- How an area is counted: the stones of a colour, and the empty points that count for it.
use Rattle.std.specs.Prelude.{◌≡◌, ℕ, ◌↔◌, ◌⊎◌, List, Option, Some, None, Contains, IsTrue, if◌then◌else◌, slice_index_or}
use Rattle.std.specs.List.{sum_by, range_with_len}
use Rattle.go_base.specs.Decide.{both?, holds}
use Rattle.go_base.specs.declared.colours.Colour.{Colour}
use Rattle.go_base.specs.declared.colours.Colour.TheVariants as colour
use Rattle.go_board.specs.declared.areas.Beside.{Beside}
use Rattle.go_board.specs.declared.areas.OpenArea.{OpenArea}
use Rattle.go_board.specs.declared.board.Cell.{Cell}
use Rattle.go_board.specs.declared.board.Cell.TheVariants.{Edge, Empty, Black, White}
use Rattle.go_board.specs.Board.{at, place_count}
use Rattle.go_board.specs.Chain.{HasBeside, Touches}
use Rattle.go_board.specs.decisions.Board.{cell?}
use Rattle.go_board.specs.decisions.Counting.{counts_for?}

-- 1 where a place holds a stone of this colour
abbrev pub one_of : Colour → Cell → ℕ
one_of colour.Black Black = 1
one_of colour.Black White = 0
one_of colour.Black Empty = 0
one_of colour.Black Edge = 0
one_of colour.White Black = 0
one_of colour.White White = 1
one_of colour.White Empty = 0
one_of colour.White Edge = 0

-- how many stones of a colour are on a board
unfoldable pub stones_on : List Cell → Colour → ℕ
stones_on board c = sum_by (λ p. one_of c (at board p)) (range_with_len 0 place_count)

-- 1 where a point is empty and counts for a colour
unfoldable pub open_one : List Cell → Colour → ℕ → ℕ
open_one board c p = if holds (both? (cell? (at board p) Empty) (counts_for? board c p)) then 1 else 0

-- how many empty points before a place count for a colour
unfoldable pub open_below : List Cell → Colour → ℕ → ℕ
open_below board c n = sum_by (open_one board c) (range_with_len 0 n)

-- how many empty points before a place count for each colour
pub record AreOpenBelow (board : List Cell) (n : ℕ) (area : OpenArea) : Type 0 where
  pub black : area.black ≡ open_below board colour.Black n
  pub white : area.white ≡ open_below board colour.White n

-- of which colours stones are beside the region of a point
pub record IsBeside (board : List Cell) (p : ℕ) (beside : Beside) : Type 0 where
  pub black : IsTrue beside.black ↔ Touches board p Black
  pub white : IsTrue beside.white ↔ Touches board p White

-- of which colours stones are beside a point
pub record IsBesidePoint (board : List Cell) (p : ℕ) (beside : Beside) : Type 0 where
  pub black : IsTrue beside.black ↔ HasBeside board p Black
  pub white : IsTrue beside.white ↔ HasBeside board p White

-- a listed place has this beside it
pub record HasAnyBeside (board : List Cell) (places : List ℕ) (this : Cell) : Type 0 where
  pub place : ℕ
  pub listed : Contains places place
  pub beside : HasBeside board place this

-- what is known of a place
abbrev pub known_at : List (Option Beside) → ℕ → Option Beside
known_at known p = slice_index_or known p None

-- what is known is right
abbrev pub AreKnown : List Cell → List (Option Beside) → Type 0
AreKnown board known = (p : ℕ) (beside : Beside) → known_at known p ≡ Some beside → IsBeside board p beside

-- what is known of a place now was known before, or it is this and the place is a listed one
abbrev pub IsLearnt : List (Option Beside) → List (Option Beside) → List ℕ → Beside → Type 0
IsLearnt old new places beside = (p : ℕ) (b : Beside) → known_at new p ≡ Some b
    → (known_at old p ≡ Some b) ⊎ ((b ≡ beside) × Contains places p)
