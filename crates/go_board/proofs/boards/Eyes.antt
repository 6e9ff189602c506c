-- The diagonals of a point.
use Rattle.std.proofs.Common.{◌≡◌, ℕ, ◌+◌, ◌-◌, ◌≤◌, List, refl, sym, subst, arith, inl, inr}
use Rattle.std.specs.Prelude.{◌≢◌, ◌↔◌}
use Rattle.go_board.specs.Board.{at}
use Rattle.go_board.specs.Eye.{Diagonal, HoldsAcross}
use Rattle.go_board.specs.declared.board.Cell.{Cell}
use Rattle.go_board.specs.decisions.Board.{cell?}

-- the four diagonals are all
all_across : (P : ℕ → Type 0) (p : ℕ) → P (p + 27) → P (p - 27) → P (p + 25) → P (p - 25)
    → (r : ℕ) → Diagonal p r → P r
all_across P p a b c d r (inl e) = subst P (sym e) a
all_across P p a b c d r (inr (inl e)) = subst P (before r e) b
  where
    before : (r : ℕ) → p ≡ r + 27 → p - 27 ≡ r
    before r e = omega arith
all_across P p a b c d r (inr (inr (inl e))) = subst P (sym e) c
all_across P p a b c d r (inr (inr (inr e))) = subst P (before r e) d
  where
    before : (r : ℕ) → p ≡ r + 25 → p - 25 ≡ r
    before r e = omega arith

first_of_four : (p : ℕ) → Diagonal p (p + 27)
first_of_four p = inl refl

second_of_four : (p : ℕ) → 27 ≤ p → Diagonal p (p - 27)
second_of_four p low = inr (inl (omega arith))

third_of_four : (p : ℕ) → Diagonal p (p + 25)
third_of_four p = inr (inr (inl refl))

last_of_four : (p : ℕ) → 27 ≤ p → Diagonal p (p - 25)
last_of_four p low = inr (inr (inr (omega arith)))

-- the number is 1 where the place holds this, and 0 where it doesn't
pub record IsCountAt (board : List Cell) (this : Cell) (p many : ℕ) : Type 0 where
  pub yes : at board p ≡ this → many ≡ 1
  pub no : at board p ≢ this → many ≡ 0
  pub few : many ≤ 1

-- the numbers of the four diagonals
pub record AreCountsAcross (board : List Cell) (this : Cell) (p a b c d : ℕ) : Type 0 where
  pub low : 27 ≤ p
  pub first : IsCountAt board this (p + 27) a
  pub second : IsCountAt board this (p - 27) b
  pub third : IsCountAt board this (p + 25) c
  pub last : IsCountAt board this (p - 25) d

pub none_across : (board : List Cell) (this : Cell) (p a b c d : ℕ) → AreCountsAcross board this p a b c d
    → (a + b + c + d ≡ 0) ↔ ((q : ℕ) → ¬ HoldsAcross board p this q)
none_across board this p a b c d n = (
  (λ e q h. all_across (λ r. at board r ≢ this) p
      (λ i. let one = n.first.yes i in absurd (omega (arith, e, one)))
      (λ i. let one = n.second.yes i in absurd (omega (arith, e, one)))
      (λ i. let one = n.third.yes i in absurd (omega (arith, e, one)))
      (λ i. let one = n.last.yes i in absurd (omega (arith, e, one))) q h.0 h.1),
  (λ none.
      let w = n.first.no (λ i. none (p + 27) (first_of_four p, i)) in
      let x = n.second.no (λ i. none (p - 27) (second_of_four p n.low, i)) in
      let y = n.third.no (λ i. none (p + 25) (third_of_four p, i)) in
      let z = n.last.no (λ i. none (p - 25) (last_of_four p n.low, i)) in
      omega (arith, w, x, y, z)),
)

-- two of the four that hold this are more than one
two_hold : (X : Type 0) (board : List Cell) (this : Cell) (q r m n : ℕ) → IsCountAt board this q m
    → IsCountAt board this r n → m + n ≤ 1 → at board q ≡ this → at board r ≡ this → X
two_hold X board this q r m n is js few i j =
    let one = is.yes i in let other = js.yes j in absurd (omega (arith, few, one, other))

-- where no two hold this, and one does, another doesn't
other_not : (board : List Cell) (this : Cell) (p q r n : ℕ)
    → ((q r : ℕ) → HoldsAcross board p this q → HoldsAcross board p this r → q ≡ r) → Diagonal p q → Diagonal p r
    → q ≢ r → at board q ≡ this → IsCountAt board this r n → n ≡ 0
other_not board this p q r n same dq dr apart i is = is.no (λ j. apart (same q r (dq, i) (dr, j)))

at_most_from : (board : List Cell) (this : Cell) (p a b c d : ℕ) → AreCountsAcross board this p a b c d
    → ((q r : ℕ) → HoldsAcross board p this q → HoldsAcross board p this r → q ≡ r) → a + b + c + d ≤ 1
at_most_from board this p a b c d n same = first (cell? (at board (p + 27)) this)
  where
    third : a ≡ 0 → b ≡ 0 → Dec (at board (p + 25) ≡ this) → a + b + c + d ≤ 1
    third w x (yes i) =
        let z = other_not board this p (p + 25) (p - 25) d same (third_of_four p) (last_of_four p n.low)
        (λ e. omega (arith, e)) i n.last in
        let few = n.third.few in omega (arith, w, x, z, few)
    third w x (no k) = let y = n.third.no k in let few = n.last.few in omega (arith, w, x, y, few)

    second : a ≡ 0 → Dec (at board (p - 27) ≡ this) → a + b + c + d ≤ 1
    second w (yes i) =
        let low = n.low in
        let y = other_not board this p (p - 27) (p + 25) c same (second_of_four p n.low) (third_of_four p)
        (λ e. omega (arith, e)) i n.third in
        let z = other_not board this p (p - 27) (p - 25) d same (second_of_four p n.low) (last_of_four p n.low)
        (λ e. omega (arith, e, low)) i n.last in
        let few = n.second.few in omega (arith, w, y, z, few)
    second w (no k) = third w (n.second.no k) (cell? (at board (p + 25)) this)

    first : Dec (at board (p + 27) ≡ this) → a + b + c + d ≤ 1
    first (yes i) =
        let x = other_not board this p (p + 27) (p - 27) b same (first_of_four p) (second_of_four p n.low)
        (λ e. omega (arith, e)) i n.second in
        let y = other_not board this p (p + 27) (p + 25) c same (first_of_four p) (third_of_four p)
        (λ e. omega (arith, e)) i n.third in
        let z = other_not board this p (p + 27) (p - 25) d same (first_of_four p) (last_of_four p n.low)
        (λ e. omega (arith, e)) i n.last in
        let few = n.first.few in omega (arith, x, y, z, few)
    first (no k) = second (n.first.no k) (cell? (at board (p - 27)) this)

pub one_across : (board : List Cell) (this : Cell) (p a b c d : ℕ) → AreCountsAcross board this p a b c d
    → (a + b + c + d ≤ 1) ↔ ((q r : ℕ) → HoldsAcross board p this q → HoldsAcross board p this r → q ≡ r)
one_across board this p a b c d n = (
  (λ e q r h j. all_across (λ q. at board q ≡ this → q ≡ r) p
      (λ i. all_across (λ r. at board r ≡ this → p + 27 ≡ r) p (λ _. refl)
      (two_hold _ board this (p + 27) (p - 27) a b n.first n.second (omega (arith, e)) i)
      (two_hold _ board this (p + 27) (p + 25) a c n.first n.third (omega (arith, e)) i)
      (two_hold _ board this (p + 27) (p - 25) a d n.first n.last (omega (arith, e)) i) r j.0 j.1)
      (λ i. all_across (λ r. at board r ≡ this → p - 27 ≡ r) p
      (two_hold _ board this (p - 27) (p + 27) b a n.second n.first (omega (arith, e)) i) (λ _. refl)
      (two_hold _ board this (p - 27) (p + 25) b c n.second n.third (omega (arith, e)) i)
      (two_hold _ board this (p - 27) (p - 25) b d n.second n.last (omega (arith, e)) i) r j.0 j.1)
      (λ i. all_across (λ r. at board r ≡ this → p + 25 ≡ r) p
      (two_hold _ board this (p + 25) (p + 27) c a n.third n.first (omega (arith, e)) i)
      (two_hold _ board this (p + 25) (p - 27) c b n.third n.second (omega (arith, e)) i) (λ _. refl)
      (two_hold _ board this (p + 25) (p - 25) c d n.third n.last (omega (arith, e)) i) r j.0 j.1)
      (λ i. all_across (λ r. at board r ≡ this → p - 25 ≡ r) p
      (two_hold _ board this (p - 25) (p + 27) d a n.last n.first (omega (arith, e)) i)
      (two_hold _ board this (p - 25) (p - 27) d b n.last n.second (omega (arith, e)) i)
      (two_hold _ board this (p - 25) (p + 25) d c n.last n.third (omega (arith, e)) i) (λ _. refl) r j.0 j.1)
      q h.0 h.1),
  at_most_from board this p a b c d n,
)
