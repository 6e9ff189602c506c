-- Neighbours of a point, and the places of the points of the largest board.
use Rattle.std.proofs.Common.{◌≡◌, ℕ, ◌+◌, ◌-◌, ◌<◌, ◌≤◌, sym, subst, arith, inl, inr}
use Rattle.std.specs.Prelude.{◌≢◌}
use Rattle.go_base.specs.Point.{Neighbours, IsOn}
use Rattle.go_base.specs.Size.{most_size}

pub Neighbours-sym : {p q : ℕ} → Neighbours p q → Neighbours q p
Neighbours-sym (inl e) = inr (inl e)
Neighbours-sym (inr (inl e)) = inl e
Neighbours-sym (inr (inr (inl e))) = inr (inr (inr e))
Neighbours-sym (inr (inr (inr e))) = inr (inr (inl e))

-- the places of the points of the largest board
pub record IsInside (p : ℕ) : Type 0 where
  pub low : 27 ≤ p
  pub high : p < 676

pub IsOn-inside : (p : ℕ) → IsOn most_size p → IsInside p
IsOn-inside p on =
    let a = on.left in let b = on.right in let c = on.bottom in let d = on.top in
    record { low = omega arith; high = omega arith }

-- the four neighbours are all
pub all_beside : (P : ℕ → Type 0) (p : ℕ) → P (p + 1) → P (p - 1) → P (p + 26) → P (p - 26)
    → (r : ℕ) → Neighbours p r → P r
all_beside P p right left above under r (inl e) = subst P (sym e) right
all_beside P p right left above under r (inr (inl e)) = subst P (before r e) left
  where
    before : (r : ℕ) → p ≡ r + 1 → p - 1 ≡ r
    before r e = omega arith
all_beside P p right left above under r (inr (inr (inl e))) = subst P (sym e) above
all_beside P p right left above under r (inr (inr (inr e))) = subst P (before r e) under
  where
    before : (r : ℕ) → p ≡ r + 26 → p - 26 ≡ r
    before r e = omega arith

pub left_of : (p : ℕ) → 27 ≤ p → Neighbours p (p - 1)
left_of p low = inr (inl (omega arith))

pub under_of : (p : ℕ) → 27 ≤ p → Neighbours p (p - 26)
under_of p low = inr (inr (inr (omega arith)))

pub not_itself : (p q : ℕ) → Neighbours p q → q ≢ p
not_itself p q (inl e) is = absurd (omega arith)
not_itself p q (inr (inl e)) is = absurd (omega arith)
not_itself p q (inr (inr (inl e))) is = absurd (omega arith)
not_itself p q (inr (inr (inr e))) is = absurd (omega arith)
