-- Decisions of places, cells and boards.
use Rattle.std.proofs.Common.{◌≡◌, ℕ, List, [], ◌∷◌, refl}
use Rattle.go_base.specs.Decide.{both?, by?, at_most?}
use Rattle.go_base.specs.Point.{column_of, row_of, IsOn}
use Rattle.go_board.specs.declared.board.Cell.{Cell}
use Rattle.go_board.specs.declared.board.Cell.TheVariants.{Edge, Empty, Black, White}

-- whether a place is a point of a board of that size
pub on? : (size p : ℕ) → Dec (IsOn size p)
on? size p =
    by? (λ h. record { left = h.0; right = (h.1).0; bottom = ((h.1).1).0; top = ((h.1).1).1 })
    (λ o. (o.left, (o.right, (o.bottom, o.top))))
    (both? (at_most? 1 (column_of p)) (both? (at_most? (column_of p) size)
    (both? (at_most? 1 (row_of p)) (at_most? (row_of p) size))))

pub cell? : (a b : Cell) → Dec (a ≡ b)
cell? Edge Edge = yes refl
cell? Empty Empty = yes refl
cell? Black Black = yes refl
cell? White White = yes refl
cell? Edge Empty = no (λ e. cc)
cell? Edge Black = no (λ e. cc)
cell? Edge White = no (λ e. cc)
cell? Empty Edge = no (λ e. cc)
cell? Empty Black = no (λ e. cc)
cell? Empty White = no (λ e. cc)
cell? Black Edge = no (λ e. cc)
cell? Black Empty = no (λ e. cc)
cell? Black White = no (λ e. cc)
cell? White Edge = no (λ e. cc)
cell? White Empty = no (λ e. cc)
cell? White Black = no (λ e. cc)

-- whether two boards are the same
pub boards? : (a b : List Cell) → Dec (a ≡ b)
boards? [] [] = yes refl
boards? [] (y ∷ ys) = no (λ e. cc)
boards? (x ∷ xs) [] = no (λ e. cc)
boards? (x ∷ xs) (y ∷ ys) = joined_dec (cell? x y) (boards? xs ys)
  where
    joined_dec : Dec (x ≡ y) → Dec (xs ≡ ys) → Dec (x ∷ xs ≡ y ∷ ys)
    joined_dec (yes a) (yes b) = yes cc
    joined_dec (yes a) (no k) = no (λ e. k cc)
    joined_dec (no k) d = no (λ e. k cc)
