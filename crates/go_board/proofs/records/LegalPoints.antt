-- The list of the points on which a colour may play.
use Rattle.std.proofs.Common.{◌≡◌, ℕ, ◌+◌, ◌<◌, ◌≤◌, List, [], ◌∷◌, ◌++◌, get_or, Contains}
use Rattle.std.proofs.Common.{sym, subst, arith, inl, inr}
use Rattle.std.proofs.lemmas.Bool.{cases_lt}
use Rattle.std.proofs.lemmas.List.{length_push}
use Rattle.std.proofs.lemmas.List.Elements.{Contains-push, Contains-push_cases, Contains-append_left, Contains-get_or}
use Rattle.std.proofs.lemmas.List.Quantifiers.{all_pairs_push}
use Rattle.go_base.specs.Point.{IsOn}
use Rattle.go_base.specs.Size.{most_size}
use Rattle.go_base.specs.declared.colours.Colour.{Colour}
use Rattle.go_base.specs.declared.vertices.Vertex.TheVariants.{At}
use Rattle.go_board.specs.Game.{GameRecord, IsGame, IsLegal}
use Rattle.go_board.specs.private.Columns.{AreLegalBefore}
use Rattle.go_board.proofs.General.{earlier_or_last}

-- a point on which the colour may play is one of the largest board
pub legal-on : (game : GameRecord) (c : Colour) (p : ℕ) → IsGame game → IsLegal game c (At p) → IsOn most_size p
legal-on game c p g l =
    let on = l.on_board in
    let right = on.right in
    let top = on.top in
    let most = g.size.most in
    record { left = on.left; right = omega (arith, right, most); bottom = on.bottom; top = omega (arith, top, most) }

-- the place is such a point
pub legal-one : (game : GameRecord) (c : Colour) (n : ℕ) (points new : List ℕ) → IsGame game
    → AreLegalBefore game c n points → IsLegal game c (At n) → new ≡ points ++ n ∷ []
    → AreLegalBefore game c (n + 1) new
legal-one game c n points new g a legal pushed = subst (AreLegalBefore game c (n + 1)) (sym pushed) (record {
  each = λ p. (
    (λ h. elim (Contains-push_cases points n p h) [
      | inl old ↦ let was = (a.each p).0 old in let below = was.0 in (omega (arith, below), was.1)
      | inr same ↦ (omega (arith, same), subst (λ (q : ℕ). IsLegal game c (At q)) same legal)
    ]),
    (λ h. elim (earlier_or_last p n h.0) [
      | inl earlier ↦ Contains-append_left points (n ∷ []) p ((a.each p).1 (earlier, h.1))
      | inr last ↦ subst (λ (q : ℕ). Contains (points ++ n ∷ []) q) (sym last) (Contains-push points n)
    ]),
  );
  in_order = all_pairs_push (λ p q. p < q) points n a.in_order (λ k d below.
      ((a.each (get_or points k d)).0 (Contains-get_or points k d below)).0);
  few =
      let few = a.few in
      let on = legal-on game c n g legal in
      let left = on.left in
      let right = on.right in
      let bottom = on.bottom in
      omega (arith, few, left, right, bottom, length_push points n);
  begun = let begun = a.begun in omega (arith, begun);
})

-- no point from one place up to another is legal
pub legal-skip : (game : GameRecord) (c : Colour) (n m : ℕ) (points : List ℕ) → n ≤ m → AreLegalBefore game c n points
    → ((p : ℕ) → n ≤ p → p < m → ¬ IsLegal game c (At p)) → AreLegalBefore game c m points
legal-skip game c n m points up a none = record {
  each = λ p. (
    (λ h. let was = (a.each p).0 h in let below = was.0 in (omega (arith, below, up), was.1)),
    (λ h. elim (cases_lt p n) [
      | inl before ↦ (a.each p).1 (before, h.1)
      | inr from ↦ absurd (none p from h.0 h.1)
    ]),
  );
  in_order = a.in_order;
  few = let few = a.few in let begun = a.begun in omega (arith, few, begun, up);
  begun = let begun = a.begun in omega (arith, begun, up);
}
