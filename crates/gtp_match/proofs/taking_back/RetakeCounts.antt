-- Counts of retakes: one more, and all of them together.
use Rattle.std.proofs.Common.{◌≡◌, ℕ, zero, suc, ◌+◌, ◌-◌, ◌*◌, ◌<◌, ◌≤◌, List, [], ◌∷◌, length, take, replicate}
use Rattle.std.proofs.Common.{get_or, slice_set, refl, ◌∙◌, arith}
use Rattle.gtp_match.specs.Retakes.{most_retakes, no_retakes, retakes_of, with_retake, total_of, retakes_within}
use Rattle.gtp_match.specs.Retakes.{AreRetakes}

total_set : (xs : List ℕ) (m k : ℕ) → k < m → k < length xs
    → total_of (take m (slice_set xs k (get_or xs k 0 + 1))) ≡ total_of (take m xs) + 1
total_set [] m k lm lx = absurd (omega (arith, lx))
total_set (x ∷ xs) zero k lm lx = absurd (omega (arith, lm))
total_set (x ∷ xs) (suc m) zero lm lx = omega arith
total_set (x ∷ xs) (suc m) (suc k) lm lx = omega (arith, total_set xs m k (omega (arith, lm)) (omega (arith, lx)))

-- one retake more of a number within the first `numbers`
pub retake_more : (retakes : List ℕ) (numbers number : ℕ) → 0 < number → number ≤ numbers → number ≤ length retakes
    → retakes_within numbers (with_retake number retakes) ≡ retakes_within numbers retakes + 1
retake_more retakes numbers zero some within inside = absurd (omega (arith, some))
retake_more retakes numbers (suc k) some within inside =
    let e : suc k - 1 ≡ k = omega arith in
    rw e (total_set retakes numbers k (omega (arith, within)) (omega (arith, inside)))

-- ---- at most three of each number

few_set : (xs : List ℕ) (k v i : ℕ) → v ≤ 3 → ((j : ℕ) → get_or xs j 0 ≤ 3) → get_or (slice_set xs k v) i 0 ≤ 3
few_set [] k v i few all = all i
few_set (x ∷ xs) zero v zero few all = few
few_set (x ∷ xs) zero v (suc i) few all = all (suc i)
few_set (x ∷ xs) (suc k) v zero few all = all zero
few_set (x ∷ xs) (suc k) v (suc i) few all = few_set xs k v i few (λ j. all (suc j))

set_length : (xs : List ℕ) (k v : ℕ) → length (slice_set xs k v) ≡ length xs
set_length [] k v = refl
set_length (x ∷ xs) zero v = refl
set_length (x ∷ xs) (suc k) v = omega (arith, set_length xs k v)

pub retaken_again : (retakes : List ℕ) (number : ℕ) → AreRetakes retakes → 0 < number
    → retakes_of retakes number < most_retakes → AreRetakes (with_retake number retakes)
retaken_again retakes number are some few = record {
  places = set_length retakes (number - 1) (retakes_of retakes number + 1) ∙ are.places;
  few = by_number;
}
  where
    by_number : (n : ℕ) → retakes_of (with_retake number retakes) n ≤ most_retakes
    by_number zero = omega arith
    by_number (suc i) =
        few_set retakes (number - 1) (retakes_of retakes number + 1) i (omega (arith, few)) (λ j. are.few (suc j))

-- `n` numbers that are 0
abbrev zeros_of : ℕ → List ℕ
zeros_of n = replicate n 0

zeros : (n i : ℕ) → get_or (zeros_of n) i 0 ≡ zero
zeros zero i = refl
zeros (suc n) zero = refl
zeros (suc n) (suc i) = zeros n i

zeros_length : (n : ℕ) → length (zeros_of n) ≡ n
zeros_length zero = refl
zeros_length (suc n) = omega (arith, zeros_length n)

pub none_retaken : AreRetakes no_retakes
none_retaken = record { places = zeros_length 2000; few = by_number }
  where
    by_number : (n : ℕ) → retakes_of no_retakes n ≤ most_retakes
    by_number zero = omega arith
    by_number (suc i) = omega (arith, zeros 2000 i)

-- ---- all of them

total_few : (xs : List ℕ) (m : ℕ) → ((j : ℕ) → get_or xs j 0 ≤ 3) → total_of (take m xs) ≤ 3 * m
total_few xs zero all = omega arith
total_few [] (suc m) all = omega arith
total_few (x ∷ xs) (suc m) all =
    let head : x ≤ 3 = all zero in omega (arith, head, total_few xs m (λ j. all (suc j)))

pub retakes_few : (retakes : List ℕ) (numbers : ℕ) → AreRetakes retakes → retakes_within numbers retakes ≤ 3 * numbers
retakes_few retakes numbers are = total_few retakes numbers (λ j. are.few (suc j))
