-- How many numbers pass a test: those that are listed, each once.
use Rattle.std.proofs.Common.{◌≡◌, ℕ, zero, suc, ◌+◌, ◌<◌, List, [], ◌∷◌, ◌++◌, get_or, refl, sym, ◌∙◌, ap, subst}
use Rattle.std.proofs.Common.{arith, inl, inr, Bool, true, false, cond, Contains}
use Rattle.std.specs.Prelude.{count_by, filter}
use Rattle.std.specs.List.{AllPairs, range_with_len}
use Rattle.std.proofs.lemmas.Bool.{false≢true}
use Rattle.std.proofs.lemmas.List.{append-nil}
use Rattle.std.proofs.lemmas.List.Elements.{Contains-push, Contains-push_cases, Contains-append_left, Contains-get_or}
use Rattle.std.proofs.lemmas.List.Quantifiers.{all_pairs_push}
use Rattle.std.proofs.lemmas.List.Sums.{length-filter}
use Rattle.go_board.specs.Laws.{IsOfSoMany}
use Rattle.go_board.proofs.captures.CapturedStones.{places-more}
use Rattle.go_board.proofs.General.{earlier_or_last}

-- the list has the numbers below n that pass, each less than those after it
pub record IsListed (f : ℕ → Bool) (n : ℕ) (xs : List ℕ) : Type 0 where
  pub there : (q : ℕ) → Contains xs q → (q < n) × (f q ≡ true)
  pub back : (q : ℕ) → q < n → f q ≡ true → Contains xs q
  pub rising : AllPairs (λ a b. a < b) xs

listed-more : (f : ℕ → Bool) (n : ℕ) (xs : List ℕ) (b : Bool) → f n ≡ b → IsListed f n xs
    → IsListed f (n + 1) (xs ++ cond b (n ∷ []) [])
listed-more f n xs true is l = record {
  there = λ q h. elim (Contains-push_cases xs n q h) [
    | inl old ↦ let t = l.there q old in let below = t.0 in (omega arith, t.1)
    | inr same ↦ (omega arith, subst (λ k. f k ≡ true) same is)
  ];
  back = λ q below passes. elim (earlier_or_last q n below) [
    | inl earlier ↦ Contains-append_left xs (n ∷ []) q (l.back q earlier passes)
    | inr last ↦ subst (λ k. Contains (xs ++ n ∷ []) k) (sym last) (Contains-push xs n)
  ];
  rising = all_pairs_push (λ a b. a < b) xs n l.rising (λ k d below.
      (l.there (get_or xs k d) (Contains-get_or xs k d below)).0);
}
listed-more f n xs false is l = subst (IsListed f (n + 1)) (sym (append-nil xs)) (record {
  there = λ q h. let t = l.there q h in let below = t.0 in (omega arith, t.1);
  back = λ q below passes. elim (earlier_or_last q n below) [
    | inl earlier ↦ l.back q earlier passes
    | inr last ↦ absurd (false≢true (sym is ∙ ap f (sym last) ∙ passes))
  ];
  rising = l.rising;
})

pub listed : (f : ℕ → Bool) (n : ℕ) → IsListed f n (filter f (range_with_len 0 n))
listed f zero = record {
  there = λ q h. let below = h.1 in absurd (omega arith);
  back = λ q below passes. absurd (omega arith);
  rising = λ i j d earlier below. absurd (omega arith);
}
listed f (suc n) =
    let next : n + 1 ≡ suc n = omega arith in
    subst (λ (k : ℕ). IsListed f k (filter f (range_with_len 0 k))) next
    (subst (IsListed f (n + 1)) (sym (places-more f n))
    (listed-more f n (filter f (range_with_len 0 n)) (f n) refl (listed f n)))

-- as many numbers below n as pass a test are those of which it is so
pub many-passing : (P : ℕ → Type 0) (f : ℕ → Bool) (n : ℕ) → ((q : ℕ) → q < n → f q ≡ true → P q)
    → ((q : ℕ) → P q → (q < n) × (f q ≡ true)) → IsOfSoMany P (count_by f (range_with_len 0 n))
many-passing P f n to from =
    let l = listed f n in
    record {
      list = filter f (range_with_len 0 n);
      each = λ q. ((λ h. let t = l.there q h in to q t.0 t.1), (λ h. let t = from q h in l.back q t.0 t.1));
      once = λ i j d earlier below same. let less = l.rising i j d earlier below in absurd (omega (arith, less, same));
      long = sym (length-filter f (range_with_len 0 n));
    }
