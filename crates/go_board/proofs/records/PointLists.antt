-- A list of points as it grows in a pass over the places of a board.
use Rattle.std.proofs.Common.{◌≡◌, ℕ, ◌+◌, ◌*◌, ◌<◌, ◌≤◌, List, [], ◌∷◌, ◌++◌, get_or, Contains}
use Rattle.std.proofs.Common.{sym, subst, arith, inl, inr}
use Rattle.std.specs.Prelude.{◌↔◌}
use Rattle.std.proofs.lemmas.List.{length_push}
use Rattle.std.proofs.lemmas.List.Elements.{Contains-push, Contains-push_cases, Contains-append_left, Contains-get_or}
use Rattle.std.proofs.lemmas.List.Quantifiers.{all_pairs_push}
use Rattle.go_base.specs.Point.{IsOn}
use Rattle.go_base.specs.Size.{most_size}
use Rattle.go_board.specs.private.PointList.{AreListedBefore}
use Rattle.go_board.proofs.General.{earlier_or_last}

-- P holds of points of a board of this size alone
pub record AreOn (size : ℕ) (P : ℕ → Type 0) : Type 0 where
  pub most : size ≤ 25
  pub on : (p : ℕ) → P p → IsOn size p

pub on-most : (size p : ℕ) → size ≤ 25 → IsOn size p → IsOn most_size p
on-most size p most on =
    let right = on.right in
    let top = on.top in
    record {
      left = on.left;
      right = omega (arith, right, most);
      bottom = on.bottom;
      top = omega (arith, top, most);
    }

pub listed-none : (size : ℕ) (P : ℕ → Type 0) (points : List ℕ) → AreOn size P → points ≡ []
    → AreListedBefore P 26 points
listed-none size P points a none = subst (AreListedBefore P 26) (sym none) (record {
  each = λ p. (
    (λ h. let below = h.1 in absurd (omega (arith, below))),
    (λ h. let on = a.on p h.1 in let bottom = on.bottom in let before = h.0 in absurd (omega (arith, bottom, before))),
  );
  in_order = λ i j d before below. absurd (omega (arith, below));
  few = omega arith;
  begun = omega arith;
})

-- P holds of the place
pub listed-one : (size : ℕ) (P : ℕ → Type 0) (n : ℕ) (points new : List ℕ) → AreOn size P → AreListedBefore P n points
    → P n → new ≡ points ++ n ∷ [] → AreListedBefore P (n + 1) new
listed-one size P n points new are a here pushed = subst (AreListedBefore P (n + 1)) (sym pushed) (record {
  each = λ p. (
    (λ h. elim (Contains-push_cases points n p h) [
      | inl old ↦ let was = (a.each p).0 old in let below = was.0 in (omega (arith, below), was.1)
      | inr same ↦ (omega (arith, same), subst P same here)
    ]),
    (λ h. elim (earlier_or_last p n h.0) [
      | inl earlier ↦ Contains-append_left points (n ∷ []) p ((a.each p).1 (earlier, h.1))
      | inr last ↦ subst (λ (q : ℕ). Contains (points ++ n ∷ []) q) (sym last) (Contains-push points n)
    ]),
  );
  in_order = all_pairs_push (λ p q. p < q) points n a.in_order (λ k d below.
      ((a.each (get_or points k d)).0 (Contains-get_or points k d below)).0);
  few =
      let few = a.few in
      let on = on-most size n are.most (are.on n here) in
      let left = on.left in
      let right = on.right in
      let bottom = on.bottom in
      omega (arith, few, left, right, bottom, length_push points n);
  begun = let begun = a.begun in omega (arith, begun);
})

-- P doesn't hold of the place
pub listed-skip : (P : ℕ → Type 0) (n : ℕ) (points : List ℕ) → AreListedBefore P n points → ¬ P n
    → AreListedBefore P (n + 1) points
listed-skip P n points a none = record {
  each = λ p. (
    (λ h. let was = (a.each p).0 h in let below = was.0 in (omega (arith, below), was.1)),
    (λ h. elim (earlier_or_last p n h.0) [
      | inl before ↦ (a.each p).1 (before, h.1)
      | inr last ↦ absurd (none (subst P last h.1))
    ]),
  );
  in_order = a.in_order;
  few = let few = a.few in let begun = a.begun in omega (arith, few, begun);
  begun = let begun = a.begun in omega (arith, begun);
}

-- after the last row all are listed
pub listed-all : (size : ℕ) (P : ℕ → Type 0) (n : ℕ) (points : List ℕ) → AreOn size P → AreListedBefore P n points
    → 26 * (size + 1) ≤ n → (p : ℕ) → Contains points p ↔ P p
listed-all size P n points are a end p = (
  (λ h. ((a.each p).0 h).1),
  (λ h.
      let on = are.on p h in
      let top = on.top in
      let left = on.left in
      (a.each p).1 (omega (arith, top, end), h)),
)
