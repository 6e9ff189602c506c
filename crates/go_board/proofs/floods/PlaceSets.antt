-- Marks and the list of the marked places.
use Rattle.std.proofs.Common.{◌≡◌, ℕ, zero, suc, ◌+◌, ◌<◌, ◌≤◌, Bool, true, false, cond, List, [], ◌∷◌, ◌++◌, length}
use Rattle.std.proofs.Common.{get_or, replicate, Contains, refl, sym, ◌∙◌, ap, subst, arith, inl, inr, get_or-set_other}
use Rattle.std.proofs.Common.{get_or-set_same}
use Rattle.std.specs.Prelude.{count_by, ◌⊎◌, ◌≢◌}
use Rattle.std.proofs.Math.ListN.{set, length-set}
use Rattle.std.proofs.lemmas.List.{length_push}
use Rattle.std.proofs.lemmas.List.Sums.{sum_by-set, count_by-le-length}
use Rattle.std.proofs.lemmas.Grind.{get_or_default_zero}
use Rattle.std.proofs.lemmas.List.Elements.{All-push, All-get_or, Contains-push, Contains-push_cases}
use Rattle.std.proofs.lemmas.List.Elements.{Contains-append_left, Contains-get_or}
use Rattle.std.proofs.lemmas.List.Quantifiers.{all_pairs_push}
use Rattle.std.specs.List.{AllPairs}
use Rattle.std.proofs.lemmas.Bool.{false≢true}
use Rattle.arrayvec.specs.ArrayVec.{ArrayVec}
use Rattle.go_board.specs.private.Places.{AreMarked}
use Rattle.go_board.specs.declared.places.Places.TheInside.{Inside}
use Rattle.std.proofs.lemmas.Bool.{cases_eq}

count_by-set : (marks : List Bool) (i : ℕ) → i < length marks → get_or marks i false ≡ false
    → count_by (λ m. m) (set marks i true) ≡ count_by (λ m. m) marks + 1
count_by-set marks i h e =
    let f : Bool → ℕ = λ x. cond x 1 0 in
    let k = sum_by-set f marks i true false h in
    let z : f (get_or marks i false) ≡ 0 = ap f e in
    omega (arith, k, z)

count_by-lt-length : (marks : List Bool) (i : ℕ) → i < length marks → get_or marks i false ≡ false
    → count_by (λ m. m) marks < length marks
count_by-lt-length marks i h e =
    omega (
      arith,
      count_by-set marks i h e,
      count_by-le-length (λ (m : Bool). m) (set marks i true),
      length-set marks i true,
    )

-- where a place isn't marked there is room for it
pub AreMarked-room : (f : Inside) (place : ℕ) → AreMarked f → length f.marked ≡ 702 → place < 702
    → get_or f.marked place false ≡ false → length f.order.items < 702
AreMarked-room f place a long h e =
    let in_range : place < length f.marked = omega arith in
    let room = count_by-lt-length f.marked place in_range e in
    let counted = a.counted in
    omega arith

marked_still : (marks : List Bool) (place p : ℕ) → place < length marks → get_or marks p false ≡ true
    → get_or (set marks place true) p false ≡ true
marked_still marks place p h e =
    elim (cases_eq p place) [
      | inl same ↦ subst (λ (q : ℕ). get_or (set marks place true) q false ≡ true) (sym same)
          (get_or-set_same marks place true false h)
      | inr other ↦ get_or-set_other marks place p true false other ∙ e
    ]

listed_still : (marks : List Bool) (xs : List ℕ) (place p : ℕ) → place < length marks
    → (get_or marks p false ≡ true → Contains xs p)
    → get_or (set marks place true) p false ≡ true → Contains (xs ++ place ∷ []) p
listed_still marks xs place p h was e =
    elim (cases_eq p place) [
      | inl same ↦ subst (λ (q : ℕ). Contains (xs ++ place ∷ []) q) (sym same) (Contains-push xs place)
      | inr other ↦ Contains-append_left xs (place ∷ []) p
          (was (sym (get_or-set_other marks place p true false other) ∙ e))
    ]

pub AreMarked-insert : (f : Inside) (place : ℕ) (order : ArrayVec ℕ) → AreMarked f → length f.marked ≡ 702 → place < 702
    → get_or f.marked place false ≡ false
    → order.items ≡ f.order.items ++ place ∷ [] → AreMarked (record { marked = set f.marked place true; order = order })
AreMarked-insert f place order a long h e pushed =
    let xs : List ℕ = f.order.items in
    let in_range : place < length f.marked = omega arith in
    let counted = a.counted in
    record {
      below = rw pushed (All-push (λ (p : ℕ). p < 702) xs place a.below h);
      marked = λ p k. elim (Contains-push_cases xs place p (rw pushed at k)) [
        | inl old ↦ marked_still f.marked place p in_range (a.marked p old)
        | inr same ↦ subst (λ (q : ℕ). get_or (set f.marked place true) q false ≡ true) same
            (get_or-set_same f.marked place true false in_range)
      ];
      listed = λ p m. rw pushed (listed_still f.marked xs place p in_range (a.listed p) m);
      counted = rw (pushed, length_push) (count_by-set f.marked place in_range e ∙ ap (λ (n : ℕ). n + 1) counted);
      once = subst (λ (ps : List ℕ). AllPairs (λ p q. p ≢ q) ps) (sym pushed)
          (all_pairs_push (λ p q. p ≢ q) xs place a.once (λ k d below same.
          let marked = a.marked (get_or xs k d) (Contains-get_or xs k d below) in
          false≢true (sym e ∙ subst (λ (q : ℕ). get_or f.marked q false ≡ true) same marked)));
    }

Contains-nil : {A : Type 0} (p : ℕ) → Contains [] p → A
Contains-nil p h = let in_range = h.1 in absurd (omega arith)

unmarked : (n p : ℕ) {A : Type 0} → get_or (replicate n false) p false ≡ true → A
unmarked zero p e = cc
unmarked (suc n) zero e = cc
unmarked (suc n) (suc p) e = unmarked n p e

none_below_zero : (P : ℕ → ℕ → Type 0) (k d : ℕ) → k < 0 → P k d
none_below_zero P k d h = absurd (omega arith)

once-none : (ps : List ℕ) → ps ≡ [] → AllPairs (λ p q. p ≢ q) ps
once-none ps empty i j d less below same = absurd (omega (arith, below, ap length empty))

-- no place and no mark
pub AreMarked-none : (marks : List Bool) (order : ArrayVec ℕ) → marks ≡ replicate 702 false → order.items ≡ []
    → AreMarked (record { marked = marks; order = order })
AreMarked-none marks order none empty = record {
  below = rw empty (none_below_zero (λ k d. d < 702));
  marked = λ p h. Contains-nil p (rw empty at h);
  listed = λ p e. unmarked 702 p (rw none at e);
  counted = ap (count_by (λ m. m)) none ∙ ap length (sym empty);
  once = once-none order.items empty;
}

-- ---- taking all places out

-- the places before `index` were unmarked, and each one that is still marked is there or later
pub record IsClearing (had : List ℕ) (index : ℕ) (order : List ℕ) (marks : List Bool) : Type 0 where
  pub same : order ≡ had
  pub long : length marks ≡ 702
  pub later : (p : ℕ) → get_or marks p false ≡ true → (k : ℕ) × (index ≤ k) × (k < length had) × (get_or had k p ≡ p)

-- what is at the next index is a place
pub IsClearing-below : (f : Inside) (index place : ℕ) (order : List ℕ) → AreMarked f → order ≡ f.order.items
    → index < length f.order.items → place ≡ get_or order index 0 → place < 702
IsClearing-below f index place order a same h is =
    subst (λ (p : ℕ). p < 702) (sym (is ∙ ap (λ (xs : List ℕ). get_or xs index 0) same))
    (All-get_or (λ (p : ℕ). p < 702) f.order.items index 0 h a.below)

past_or_here : (i k : ℕ) → i ≤ k → (i + 1 ≤ k) ⊎ (k ≡ i)
past_or_here i k h = grind arith

pub IsClearing-more : (had : List ℕ) (index place : ℕ) (order : List ℕ) (marks : List Bool)
    → IsClearing had index order marks → index < length had → place < 702 → place ≡ get_or order index 0
    → IsClearing had (index + 1) order (set marks place false)
IsClearing-more had index place order marks l h few is = record {
  same = l.same;
  long = length-set marks place false ∙ l.long;
  later = λ p m. elim (cases_eq p place) [
    | inl same ↦
        let gone : get_or (set marks place false) p false ≡ false =
        subst (λ (q : ℕ). get_or (set marks place false) q false ≡ false) (sym same)
        (get_or-set_same marks place false false in_range) in
        cc
    | inr other ↦ still p other (l.later p (sym (get_or-set_other marks place p false false other) ∙ m))
  ];
}
  where
    in_range : place < length marks
    in_range = let long = l.long in omega arith

    here : place ≡ get_or had index 0
    here = is ∙ ap (λ (xs : List ℕ). get_or xs index 0) l.same

    still : (p : ℕ) → p ≢ place → (k : ℕ) × (index ≤ k) × (k < length had) × (get_or had k p ≡ p)
        → (k : ℕ) × (index + 1 ≤ k) × (k < length had) × (get_or had k p ≡ p)
    still p other (k, later, below, at) = elim (past_or_here index k later) [
      | inl past ↦ (k, past, below, at)
      | inr now ↦ absurd (other
          (sym at ∙ get_or_default_zero had k p below ∙ ap (λ (i : ℕ). get_or had i 0) now ∙ sym here))
    ]

count_none : (marks : List Bool) → ((p : ℕ) → get_or marks p false ≡ true → ⊥) → count_by (λ m. m) marks ≡ 0
count_none [] none = refl
count_none (true ∷ marks) none = absurd (none 0 refl)
count_none (false ∷ marks) none = count_none marks (λ p. none (suc p))

-- once all are unmarked there is no mark
pub AreMarked-cleared : (had : List ℕ) (index : ℕ) (old : List ℕ) (marks : List Bool) (order : ArrayVec ℕ)
    → IsClearing had index old marks → length had ≤ index → order.items ≡ []
    → AreMarked (record { marked = marks; order = order })
AreMarked-cleared had index old marks order l past empty = record {
  below = rw empty (none_below_zero (λ k d. d < 702));
  marked = λ p h. Contains-nil p (rw empty at h);
  listed = λ p e. absurd (none p e);
  counted = count_none marks none ∙ ap length (sym empty);
  once = once-none order.items empty;
}
  where
    none : (p : ℕ) → get_or marks p false ≡ true → ⊥
    none p e = let k = l.later p e in let later = k.1 in let below = k.2 in absurd (omega arith)
