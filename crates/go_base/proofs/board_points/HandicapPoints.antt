-- The points of handicap stones, once for every size.
use Rattle.std.proofs.Common.{◌≡◌, ◌≢◌, ℕ, ◌-◌, ◌%◌, ◌<◌, ◌≤◌, inl, inr, List, [], ◌∷◌, ◌++◌, take, length, min, refl}
use Rattle.std.proofs.Common.{sym, subst, arith, rules}
use Rattle.std.specs.List.{AllByRecursion, All, AllPairs}
use Rattle.std.proofs.lemmas.List.{get_or-take, length-take}
use Rattle.std.proofs.lemmas.List.Elements.{All-from_recursion, All-take, All-push}
use Rattle.std.proofs.lemmas.List.Kept.{AllPairs-cons}
use Rattle.std.proofs.lemmas.List.Quantifiers.{all_pairs_push}
use Rattle.std.proofs.lemmas.Bool.{cases_eq, cases_lt}
use Rattle.std.proofs.lemmas.Bool.Decides.{nat_tests}
use Rattle.go_base.specs.Size.{IsSize}
use Rattle.go_base.specs.Point.{point, IsOn}
use Rattle.go_base.specs.Handicap.{low_line, middle_line, high_line, handicap_points, AllowsHandicap}

-- what holds of 5, 7 and 9 holds of the numbers with a stone in the centre
pub with_centre_cases : (P : ℕ → Type 0) → P 5 → P 7 → P 9 → (n : ℕ) → 5 ≤ n → n ≤ 9 → n % 2 ≡ 1 → P n
with_centre_cases P five seven nine n least most odd =
    elim (cases_eq n 5) [
      | inl e ↦ subst P (sym e) five
      | inr not5 ↦ elim (cases_eq n 7) [
        | inl e ↦ subst P (sym e) seven
        | inr not7 ↦ let e : 9 ≡ n = omega arith in subst P e nine
      ]
    ]

-- what holds of 2, 3, 4, 6 and 8 holds of the numbers without one
pub without_centre_cases : (P : ℕ → Type 0) → P 2 → P 3 → P 4 → P 6 → P 8 → (n : ℕ) → 2 ≤ n → n ≤ 9
    → (5 ≤ n → n % 2 ≡ 1 → ⊥) → P n
without_centre_cases P two three four six eight n least most other =
    elim (cases_eq n 2) [
      | inl e ↦ subst P (sym e) two
      | inr not2 ↦ elim (cases_eq n 3) [
        | inl e ↦ subst P (sym e) three
        | inr not3 ↦ elim (cases_eq n 4) [
          | inl e ↦ subst P (sym e) four
          | inr not4 ↦ elim (cases_eq n 6) [
            | inl e ↦ subst P (sym e) six
            | inr not6 ↦ let e : 8 ≡ n = grind arith in subst P e eight
          ]
        ]
      ]
    ]

abbrev pub centre_of : ℕ → ℕ
centre_of size = point (middle_line size) (middle_line size)

-- an odd number from 5 on has its last stone in the centre, and the others first
pub points_with_centre : (size n : ℕ) → 5 ≤ n → n ≤ 9 → n % 2 ≡ 1
    → take (n - 1) (handicap_points size 8) ++ centre_of size ∷ [] ≡ handicap_points size n
unfolding handicap_points
points_with_centre size =
    with_centre_cases (λ n. take (n - 1) (handicap_points size 8) ++ centre_of size ∷ [] ≡ handicap_points size n) refl
    refl refl

-- the other numbers have the first of the points of eight stones
pub points_without_centre : (size n : ℕ) → 2 ≤ n → n ≤ 9 → (5 ≤ n → n % 2 ≡ 1 → ⊥)
    → take n (handicap_points size 8) ≡ handicap_points size n
unfolding handicap_points
points_without_centre size =
    without_centre_cases (λ n. take n (handicap_points size 8) ≡ handicap_points size n) refl refl refl refl refl

-- what a size allows is 2 to 9 stones, and sizes from 7 up
pub record IsHandicap (size stones : ℕ) : Type 0 where
  pub large : 7 ≤ size
  pub least : 2 ≤ stones
  pub most : stones ≤ 9

pub handicap_bounds : (size stones : ℕ) → AllowsHandicap size stones → IsHandicap size stones
handicap_bounds size stones (inl a) = record { large = omega (arith, a.1); least = a.2; most = a.3 }
handicap_bounds size stones (inr (inl a)) =
    record { large = omega (arith, a.0); least = a.1; most = omega (arith, a.2) }
handicap_bounds size stones (inr (inr a)) =
    record { large = omega (arith, a.1); least = a.2; most = omega (arith, a.3) }

-- the three lines of a size, in order
pub record AreLines (size l m h : ℕ) : Type 0 where
  pub left : 1 ≤ l
  pub below : l < m
  pub above : m < h
  pub right : h ≤ size
  pub size_is : IsSize size

pub lines_of_size : (size : ℕ) → IsSize size → 7 ≤ size
    → AreLines size (low_line size) (middle_line size) (high_line size)
lines_of_size size is_size large =
    record {
      left = grind (arith, nat_tests);
      below = grind (arith, nat_tests);
      above = grind (arith, nat_tests);
      right = grind (arith, nat_tests);
      size_is = is_size;
    }

-- no two are equal, by recursion
abbrev AreApart : List ℕ → Type 0
AreApart [] = Unit {0}
AreApart (p ∷ ps) = AllByRecursion (λ q. p ≢ q) ps × AreApart ps

AllPairs-from_apart : (ps : List ℕ) → AreApart ps → AllPairs (λ p q. p ≢ q) ps
AllPairs-from_apart [] apart = λ i j d below inside. absurd (omega arith)
AllPairs-from_apart (p ∷ ps) apart =
    AllPairs-cons (λ p q. p ≢ q) p ps (All-from_recursion (λ q. p ≢ q) ps apart.0) (AllPairs-from_apart ps apart.1)

-- what holds of a list of points and of its fronts holds of the first points of eight stones
AllPairs-take : (R : ℕ → ℕ → Type 0) (n : ℕ) (ps : List ℕ) → AllPairs R ps → AllPairs R (take n ps)
AllPairs-take R n ps all i j d below inside =
    let short : length (take n ps) ≡ min n (length ps) = length-take n ps in
    let here : j < n = omega arith in
    let first : i < n = omega arith in
    rw (get_or-take n ps i d first, get_or-take n ps j d here) (all i j d below (omega arith))

-- the points of eight stones on these lines
abbrev outer_of : ℕ → ℕ → ℕ → List ℕ
outer_of l m h = point l l ∷ point h h ∷ point l h ∷ point h l ∷ point l m ∷ point h m ∷ point m l ∷ point m h ∷ []

-- points and one more: they are on the board, and no two are equal
record IsTable (size : ℕ) (outer : List ℕ) (centre : ℕ) : Type 0 where
  pub outer_on : AllByRecursion (IsOn size) outer
  pub centre_on : IsOn size centre
  pub outer_apart : AreApart outer
  pub centre_apart : AllByRecursion (λ p. p ≢ centre) outer

IsTable-lines : (size l m h : ℕ) → AreLines size l m h → IsTable size (outer_of l m h) (point m m)
IsTable-lines size l m h a =
    record {
      outer_on = search (rules, arith);
      centre_on = omega arith;
      outer_apart = search (rules, arith);
      centre_apart = search (rules, arith);
    }

-- the points of an allowed number of stones are on the board, and no two are equal
pub record IsSound (size : ℕ) (points : List ℕ) : Type 0 where
  pub on_board : All (IsOn size) points
  pub distinct : AllPairs (λ p q. p ≢ q) points

front_sound : (size n : ℕ) (outer : List ℕ) (centre : ℕ) → IsTable size outer centre → IsSound size (take n outer)
front_sound size n outer centre t =
    record {
      on_board = All-take (IsOn size) n outer (All-from_recursion (IsOn size) outer t.outer_on);
      distinct = AllPairs-take (λ p q. p ≢ q) n outer (AllPairs-from_apart outer t.outer_apart);
    }

centre_sound : (size n : ℕ) (outer : List ℕ) (centre : ℕ) → IsTable size outer centre
    → IsSound size (take n outer ++ centre ∷ [])
centre_sound size n outer centre t =
    let front = front_sound size n outer centre t in
    let apart : All (λ p. p ≢ centre) (take n outer) =
    All-take (λ p. p ≢ centre) n outer (All-from_recursion (λ p. p ≢ centre) outer t.centre_apart) in
    record {
      on_board = All-push (IsOn size) (take n outer) centre front.on_board t.centre_on;
      distinct = all_pairs_push (λ p q. p ≢ q) (take n outer) centre front.distinct (λ k d inside. apart k d inside);
    }

table_of_size : (size : ℕ) → IsSize size → 7 ≤ size → IsTable size (handicap_points size 8) (centre_of size)
unfolding handicap_points
table_of_size size is_size large =
    IsTable-lines size (low_line size) (middle_line size) (high_line size) (lines_of_size size is_size large)

pub handicap_sound : (size n : ℕ) → IsSize size → AllowsHandicap size n → IsSound size (handicap_points size n)
handicap_sound size n is_size allowed =
    let bounds = handicap_bounds size n allowed in
    let table = table_of_size size is_size bounds.large in
    elim (cases_lt n 5) [
      | inl few ↦
          subst (IsSound size) (points_without_centre size n bounds.least bounds.most (λ many odd. omega arith))
          (front_sound size n (handicap_points size 8) (centre_of size) table)
      | inr many ↦ elim (cases_eq (n % 2) 1) [
        | inl odd ↦
            subst (IsSound size) (points_with_centre size n many bounds.most odd)
            (centre_sound size (n - 1) (handicap_points size 8) (centre_of size) table)
        | inr even ↦
            subst (IsSound size) (points_without_centre size n bounds.least bounds.most (λ _ odd. even odd))
            (front_sound size n (handicap_points size 8) (centre_of size) table)
      ]
    ]
