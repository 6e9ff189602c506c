-- For which colour a point counts. Every stone is alive. (Own rules of play.)
use Rattle.std.specs.Prelude.{◌≡◌, ℕ, ◌⊎◌, List}
use Rattle.go_base.specs.Colour.{other}
use Rattle.go_base.specs.declared.colours.Colour.{Colour}
use Rattle.go_board.specs.declared.board.Cell.{Cell}
use Rattle.go_board.specs.declared.board.Cell.TheVariants.{Empty}
use Rattle.go_board.specs.Board.{at, stone}
use Rattle.go_board.specs.Chain.{Touches}

-- A point counts for a colour that has a stone on it, and an empty point where the stones beside its region are of that
-- colour alone and there is at least one.
abbrev pub CountsFor : List Cell → Colour → ℕ → Type 0
CountsFor board c p =
    (at board p ≡ stone c) ⊎ ((at board p ≡ Empty) × (Touches board p (stone c) × ¬ Touches board p (stone (other c))))
