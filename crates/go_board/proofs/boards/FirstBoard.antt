-- The board before the first move.
use Rattle.std.proofs.Common.{◌≡◌, ℕ, List, length, refl, sym, ◌∙◌, ap, inl, inr}
use Rattle.std.specs.Prelude.{◌⊎◌}
use Rattle.go_base.specs.Handicap.{handicap_points, AllowsHandicap}
use Rattle.go_board.specs.Board.{empty_board, with_black}
use Rattle.go_board.specs.private.Frame.{SameEdge}
use Rattle.go_board.specs.Game.{start}
use Rattle.go_board.specs.declared.board.Cell.{Cell}

-- the board has black stones on these points
pub record IsAdding (board : List Cell) (points : List ℕ) (cells : List Cell) : Type 0 where
  pub length_is : length cells ≡ length board
  pub cells_are : cells ≡ with_black board points
  pub same_edge : SameEdge board cells

pub start-none : (size : ℕ) → start size 0 ≡ empty_board size
unfolding start handicap_points
start-none size = refl

-- where no handicap is allowed and one may be asked for, there is none
pub start-not_allowed : (size stones : ℕ) → (stones ≡ 0) ⊎ AllowsHandicap size stones → ¬ AllowsHandicap size stones
    → empty_board size ≡ start size stones
start-not_allowed size stones (inl none) out = sym (start-none size) ∙ sym (ap (start size) none)
start-not_allowed size stones (inr allowed) out = absurd (out allowed)

pub start-from_points : (size stones : ℕ) (points : List ℕ) (cells empty : List Cell) → cells ≡ with_black empty points
    → empty ≡ empty_board size → points ≡ handicap_points size stones
    → cells ≡ start size stones
unfolding start
start-from_points size stones points cells empty is is_empty are =
    is ∙ ap (λ b. with_black b points) is_empty ∙ ap (with_black (empty_board size)) are
