-- Decisions: a fact, or that it doesn't hold. The type of a decision says all that there is to know of it, so none is
-- ever computed.
use Rattle.std.proofs.Common.{◌≡◌, ℕ, ◌<◌, ◌≤◌, ◌%◌, Bool, true, false, arith, inl, inr}
use Rattle.std.specs.Prelude.{◌⊎◌}
use Rattle.go_base.specs.Handicap.{AllowsHandicap}

-- whether the decision is for the fact
abbrev pub holds : {A : Type 0} → Dec A → Bool
holds (yes _) = true
holds (no _) = false

pub both? : {A B : Type 0} → Dec A → Dec B → Dec (A × B)
both? (yes a) (yes b) = yes (a, b)
both? (yes a) (no k) = no (λ h. k h.1)
both? (no k) d = no (λ h. k h.0)

pub either? : {A B : Type 0} → Dec A → Dec B → Dec (A ⊎ B)
either? (yes a) d = yes (inl a)
either? (no k) (yes b) = yes (inr b)
either? (no k) (no l) = no (neither k l)
  where
    neither : {A B : Type 0} → (A → ⊥) → (B → ⊥) → A ⊎ B → ⊥
    neither k l (inl a) = k a
    neither k l (inr b) = l b

pub not? : {A : Type 0} → Dec A → Dec (¬ A)
not? (yes a) = no (λ k. k a)
not? (no k) = yes k

-- a fact in other words
pub by? : {A B : Type 0} → (A → B) → (B → A) → Dec A → Dec B
by? f g (yes a) = yes (f a)
by? f g (no k) = no (λ b. k (g b))

from_sum : {A : Type 0} → A ⊎ (A → ⊥) → Dec A
from_sum (inl a) = yes a
from_sum (inr k) = no k

pub number? : (m n : ℕ) → Dec (m ≡ n)
number? m n = from_sum (grind arith)

pub below? : (m n : ℕ) → Dec (m < n)
below? m n = from_sum (grind arith)

pub at_most? : (m n : ℕ) → Dec (m ≤ n)
at_most? m n = from_sum (grind arith)

three? : {A B C : Type 0} → Dec A → Dec B → Dec C → Dec (A × B × C)
three? a b c = by? (λ h. (h.0, h.1.0, h.1.1)) (λ h. (h.0, (h.1, h.2))) (both? a (both? b c))

four? : {A B C D : Type 0} → Dec A → Dec B → Dec C → Dec D → Dec (A × B × C × D)
four? a b c d = by? (λ h. (h.0, h.1.0, h.1.1, h.1.2)) (λ h. (h.0, (h.1, h.2, h.3))) (both? a (three? b c d))

-- whether the size allows that number of stones
pub allows? : (size stones : ℕ) → Dec (AllowsHandicap size stones)
allows? size stones =
    either? (four? (number? (size % 2) 1) (at_most? 9 size) (at_most? 2 stones) (at_most? stones 9))
    (either? (three? (number? size 7) (at_most? 2 stones) (at_most? stones 4))
    (four? (number? (size % 2) 0) (at_most? 8 size) (at_most? 2 stones) (at_most? stones 4)))
