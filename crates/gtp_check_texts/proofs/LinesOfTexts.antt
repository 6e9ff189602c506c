-- The lines of a text, one after the other.
use Rattle.std.proofs.Common.{◌≡◌, ℕ, suc, ◌+◌, ◌≤◌, List, [], ◌∷◌, length, take, drop, Bool, true, false, cond}
use Rattle.std.proofs.Common.{refl, sym, ◌∙◌, ap, arith}
use Rattle.std.specs.Prelude.{not}
use Rattle.std.specs.List.{slice_split, onto_first, position_or_len}

-- a text without such a byte is one part
pub none_ended : (p : ℕ → Bool) (text : List ℕ) → length text ≤ position_or_len p text
    → slice_split p text ≡ text ∷ []
none_ended p [] past = refl
none_ended p (x ∷ text) past = by_test (none_ended p text) (p x) past
  where
    by_test : (length text ≤ position_or_len p text → slice_split p text ≡ text ∷ []) → (b : Bool)
        → suc (length text) ≤ cond (not b) (1 + position_or_len p text) 0
        → cond b ([] ∷ slice_split p text) (onto_first x (slice_split p text)) ≡ (x ∷ text) ∷ []
    by_test rest true less = absurd (omega arith)
    by_test rest false less = ap (onto_first x) (rest (omega arith))

-- the first part, and those of what follows the byte that ends it
pub first_ended : (p : ℕ → Bool) (text : List ℕ) (end : ℕ) (more : List ℕ)
    → drop (position_or_len p text) text ≡ end ∷ more
    → slice_split p text ≡ take (position_or_len p text) text ∷ slice_split p more
first_ended p [] end more is = cc
first_ended p (x ∷ text) end more is = by_test (first_ended p text end more) (p x) is
  where
    next : 1 + position_or_len p text ≡ suc (position_or_len p text)
    next = omega arith

    by_test : (drop (position_or_len p text) text ≡ end ∷ more
        → slice_split p text ≡ take (position_or_len p text) text ∷ slice_split p more)
        → (b : Bool) → drop (cond (not b) (1 + position_or_len p text) 0) (x ∷ text) ≡ end ∷ more
        → cond b ([] ∷ slice_split p text) (onto_first x (slice_split p text))
        ≡ take (cond (not b) (1 + position_or_len p text) 0) (x ∷ text) ∷ slice_split p more
    by_test rest true e = let same : text ≡ more = cc in ap (λ (t : List ℕ). [] ∷ slice_split p t) same
    by_test rest false e =
        ap (onto_first x) (rest (ap (λ (n : ℕ). drop n (x ∷ text)) (sym next) ∙ e))
        ∙ ap (λ (n : ℕ). take n (x ∷ text) ∷ slice_split p more) (sym next)
