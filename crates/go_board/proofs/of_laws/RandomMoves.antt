-- Each candidate is chosen by just one of as many words in a row as there are candidates.
use Rattle.std.proofs.Common.{◌≡◌, ℕ, zero, suc, ◌+◌, ◌*◌, ◌/◌, ◌%◌, ◌<◌, ◌≤◌, List, [], ◌∷◌, get_or, length}
use Rattle.std.proofs.Common.{Contains, refl, sym, ◌∙◌, ap, subst, arith, inl, inr}
use Rattle.std.specs.Prelude.{◌⊎◌, ◌↔◌, Some, slice_get}
use Rattle.std.specs.List.{AllPairs}
use Rattle.std.proofs.lemmas.Bool.{cases_lt}
use Rattle.std.proofs.lemmas.Nat.{mul-le, mod-mul-add, mod_below, div-add-mod'}
use Rattle.std.proofs.lemmas.Option.{slice_get-get_or, slice_get_within, get_or_from_slice_get}
use Rattle.go_base.specs.declared.colours.Colour.{Colour}
use Rattle.go_base.specs.declared.vertices.Vertex.TheVariants.{At}
use Rattle.go_board.specs.Candidates.{IsCandidate, AreCandidates, IsRandomMove, IsOfOneWord}
use Rattle.go_board.specs.Game.{GameRecord}

-- ---- lists in order

order : (i j : ℕ) → (i < j) ⊎ ((i ≡ j) ⊎ (j < i))
order i j = grind arith

place-cases : (x : ℕ) (xs : List ℕ) (p k : ℕ) → k < length (x ∷ xs) → get_or (x ∷ xs) k p ≡ p
    → (x ≡ p) ⊎ Contains xs p
place-cases x xs p zero below e = inl e
place-cases x xs p (suc k) below e = inr (k, omega arith, e)

cons-cases : (x : ℕ) (xs : List ℕ) (p : ℕ) → Contains (x ∷ xs) p → (x ≡ p) ⊎ Contains xs p
cons-cases x xs p h = place-cases x xs p h.0 h.1 h.2

in-rest : (x : ℕ) (xs : List ℕ) (p : ℕ) → Contains xs p → Contains (x ∷ xs) p
in-rest x xs p h = let below = h.1 in (suc h.0, omega arith, h.2)

in-front : (x : ℕ) (xs : List ℕ) → Contains (x ∷ xs) x
in-front x xs = (0, omega arith, refl)

rest-order : (x : ℕ) (xs : List ℕ) → AllPairs (λ a b. a < b) (x ∷ xs) → AllPairs (λ a b. a < b) xs
rest-order x xs a i j d less below = a (suc i) (suc j) d (omega arith) (omega arith)

front-less : (x : ℕ) (xs : List ℕ) (p : ℕ) → AllPairs (λ a b. a < b) (x ∷ xs) → Contains xs p → x < p
front-less x xs p a h =
    let below = h.1 in
    subst (λ (q : ℕ). x < q) h.2 (a 0 (suc h.0) p (omega arith) (omega arith))

-- two lists in order with the same numbers are one
in-order-same : (xs ys : List ℕ) → AllPairs (λ a b. a < b) xs → AllPairs (λ a b. a < b) ys
    → ((p : ℕ) → Contains xs p ↔ Contains ys p) → xs ≡ ys
in-order-same [] [] a b same = refl
in-order-same [] (y ∷ ys) a b same = let h = (same y).1 (in-front y ys) in let below = h.1 in absurd (omega arith)
in-order-same (x ∷ xs) [] a b same = let h = (same x).0 (in-front x xs) in let below = h.1 in absurd (omega arith)
in-order-same (x ∷ xs) (y ∷ ys) a b same =
    together first (in-order-same xs ys (rest-order x xs a) (rest-order y ys b) (λ p. (
      (λ h. from-rest x y xs ys p first a h ((same p).0 (in-rest x xs p h))),
      (λ h. from-rest y x ys xs p (sym first) b h ((same p).1 (in-rest y ys p h))),
    )))
  where
    first : x ≡ y
    first = elim (cons-cases y ys x ((same x).0 (in-front x xs))) [
      | inl e ↦ sym e
      | inr later ↦ elim (cons-cases x xs y ((same y).1 (in-front y ys))) [
        | inl e ↦ e
        | inr other ↦
            let less = front-less y ys x b later in let more = front-less x xs y a other in absurd (omega arith)
      ]
    ]

    from-rest : (x y : ℕ) (xs ys : List ℕ) (p : ℕ) → x ≡ y → AllPairs (λ a b. a < b) (x ∷ xs) → Contains xs p
        → Contains (y ∷ ys) p → Contains ys p
    from-rest x y xs ys p e a h found = elim (cons-cases y ys p found) [
      | inl here ↦ let less = front-less x xs p a h in absurd (omega (arith, e, here, less))
      | inr later ↦ later
    ]

    together : {x y : ℕ} {xs ys : List ℕ} → x ≡ y → xs ≡ ys → x ∷ xs ≡ y ∷ ys
    together e f = cc

-- a number has one place in a list in order
one-place : (xs : List ℕ) (i j p : ℕ) → AllPairs (λ a b. a < b) xs → slice_get xs i ≡ Some p → slice_get xs j ≡ Some p
    → i ≡ j
one-place xs i j p a e f = by-order (order i j)
  where
    here : get_or xs i p ≡ p
    here = get_or_from_slice_get xs i p p e

    there : get_or xs j p ≡ p
    there = get_or_from_slice_get xs j p p f

    by-order : (i < j) ⊎ ((i ≡ j) ⊎ (j < i)) → i ≡ j
    by-order (inl less) =
        let l = a i j p less (slice_get_within xs j p f) in absurd (omega (arith, l, here, there))
    by-order (inr (inl same)) = same
    by-order (inr (inr more)) =
        let l = a j i p more (slice_get_within xs i p e) in absurd (omega (arith, l, here, there))

-- ---- words in a row

-- of n numbers from one on just one leaves k
record IsOnlyWord (first n k : ℕ) : Type 0 where
  word : ℕ
  from : first ≤ word
  below : word < first + n
  is : word % n ≡ k
  only : (w : ℕ) → first ≤ w → w < first + n → w % n ≡ k → w ≡ word

near-same : (x y n k w v : ℕ) → x * n + k ≡ w → y * n + k ≡ v → w < v + n → v < w + n → v ≡ w
near-same x y n k w v e f a b = by-order (order x y)
  where
    by-order : (x < y) ⊎ ((x ≡ y) ⊎ (y < x)) → v ≡ w
    by-order (inl less) = let m = mul-le (x + 1) n y n (omega (arith, less)) (omega arith) in
        absurd (omega (arith, m, e, f, b))
    by-order (inr (inl same)) = sym f ∙ ap (λ (z : ℕ). z * n + k) (sym same) ∙ e
    by-order (inr (inr more)) = let m = mul-le (y + 1) n x n (omega (arith, more)) (omega arith) in
        absurd (omega (arith, m, e, f, a))

only-word : (first n k q w : ℕ) → k < n → w ≡ q * n + k → first ≤ w → w < first + n → IsOnlyWord first n k
only-word first n k q w low is from below = record {
  word = w;
  from = from;
  below = below;
  is = ap (λ (z : ℕ). z % n) is ∙ mod-mul-add q n k low;
  only = λ v least most left.
      near-same q (v / n) n k w v (sym is) (ap (λ (z : ℕ). v / n * n + z) (sym left) ∙ div-add-mod' v n)
      (omega (arith, below, least)) (omega (arith, most, from));
}

one-word : (first n k : ℕ) → k < n → IsOnlyWord first n k
one-word first n k low = by-left (first / n) (first % n) (div-add-mod' first n) (mod_below first n (omega (arith, low)))
  where
    by-left : (q r : ℕ) → q * n + r ≡ first → r < n → IsOnlyWord first n k
    by-left q r is few = elim (cases_lt k r) [
      | inl past ↦ only-word first n k (q + 1) ((q + 1) * n + k) low refl (omega (arith, is, few))
          (omega (arith, is, past))
      | inr here ↦ only-word first n k q (q * n + k) low refl (omega (arith, is, here)) (omega (arith, is, low))
    ]

pub chosen-evenly : (game : GameRecord) (c : Colour) (points : List ℕ) (first p : ℕ)
    → AreCandidates game c points → IsCandidate game c p
    → IsOfOneWord first (length points) (λ word. IsRandomMove game c word (At p))
chosen-evenly game c points first p are candidate =
    let listed = (are.each p).1 candidate in
    let one = one-word first (length points) listed.0 listed.1 in
    let found : slice_get points listed.0 ≡ Some p =
    slice_get-get_or points listed.0 p listed.1 ∙ ap (λ (q : ℕ). Some q) listed.2 in
    record {
      word = one.word;
      from = one.from;
      below = one.below;
      has = record {
        points = points;
        candidates = are;
        chosen = subst (λ (k : ℕ). slice_get points k ≡ Some p) (sym one.is) found;
      };
      only = λ w from below h.
          one.only w from below (one-place points (w % length points) listed.0 p are.in_order
          (subst (λ (xs : List ℕ). slice_get xs (w % length xs) ≡ Some p)
          (in-order-same h.points points h.candidates.in_order are.in_order (λ q. (
            (λ there. (are.each q).1 ((h.candidates.each q).0 there)),
            (λ here. (h.candidates.each q).1 ((are.each q).0 here)),
          ))) h.chosen) found);
    }
