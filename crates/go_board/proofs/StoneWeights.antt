-- What a play changes in a sum over the places of a board, where each stone has a weight and an empty point none.
use Rattle.std.proofs.Common.{◌≡◌, ℕ, suc, ◌+◌, ◌<◌, List, [], ◌∷◌, length, refl, sym, ◌∙◌, ap, subst}
use Rattle.std.proofs.Common.{arith, inl, inr, get_or-set_other, Contains}
use Rattle.std.specs.Prelude.{◌≢◌, ◌⊎◌}
use Rattle.std.specs.List.{AllPairs, sum_by}
use Rattle.std.proofs.Math.ListN.{set}
use Rattle.std.proofs.lemmas.Bool.{cases_eq}
use Rattle.std.proofs.lemmas.List.Elements.{Contains-append_right}
use Rattle.std.proofs.lemmas.List.Sums.{sum_by-cons}
use Rattle.go_base.specs.Colour.{other}
use Rattle.go_base.specs.declared.colours.Colour.{Colour}
use Rattle.go_board.specs.declared.board.Cell.{Cell}
use Rattle.go_board.specs.declared.board.Cell.TheVariants.{Edge, Empty}
use Rattle.go_board.specs.Board.{at, stone}
use Rattle.go_board.specs.Chain.{IsCaptured}
use Rattle.go_board.specs.Play.{play}
use Rattle.go_board.specs.decisions.Chain.{captured?}
use Rattle.go_board.proofs.Sums.{total, total-none, total-add, total-only, total-changed}
use Rattle.go_board.proofs.boards.Cells.{empty-point}
use Rattle.go_board.proofs.captures.CapturedStones.{in_list}
use Rattle.go_board.proofs.of_laws.BoardsAndScores.{play-leaves, Contains-cases}
use Rattle.go_board.proofs.ids.Paths.{IsStone-filled, IsStone-point}
use Rattle.go_board.proofs.undo.LastTaken.{captured-gone}

-- ---- sums over a list and over all places

-- one number or another
pub pick : {A B : Type 0} → A ⊎ B → ℕ → ℕ → ℕ
pick (inl a) m n = m
pick (inr b) m n = n

pub pick-yes : {A : Type 0} (s : A ⊎ (A → ⊥)) (m n : ℕ) → A → pick s m n ≡ m
unfolding pick
pick-yes (inl a) m n h = refl
pick-yes (inr k) m n h = absurd (k h)

pub pick-no : {A : Type 0} (s : A ⊎ (A → ⊥)) (m n : ℕ) → (A → ⊥) → pick s m n ≡ n
unfolding pick
pick-no (inl a) m n k = absurd (k a)
pick-no (inr b) m n k = refl

-- a function with 0 at one place
but : (ℕ → ℕ) → ℕ → ℕ → ℕ
but h x q = pick (cases_eq q x) 0 (h q)

but-here : (h : ℕ → ℕ) (x q : ℕ) → q ≡ x → but h x q ≡ 0
unfolding but
but-here h x q same = pick-yes (cases_eq q x) 0 (h q) same

but-other : (h : ℕ → ℕ) (x q : ℕ) → q ≢ x → but h x q ≡ h q
unfolding but
but-other h x q away = pick-no (cases_eq q x) 0 (h q) away

-- the sum over a list, each number of which is there once, is that over all places of what is 0 elsewhere
sum-listed : (k h : ℕ → ℕ) (n : ℕ) (xs : List ℕ) → AllPairs (λ p q. p < q) xs
    → ((q : ℕ) → Contains xs q → (q < n) × (h q ≡ k q)) → ((q : ℕ) → ¬ Contains xs q → h q ≡ 0)
    → sum_by k xs ≡ total h n
sum-listed k h n [] rising there away =
    sym (total-none h n (λ q below. away q (λ c. let below = c.1 in absurd (omega arith))))
sum-listed k h n (x ∷ xs) rising there away =
    let here = there x (0, omega arith, refl) in
    let is = here.1 in
    let later : (q : ℕ) → Contains xs q → x < q =
    λ q c. let below = c.1 in
    subst (λ (r : ℕ). x < r) c.2 (rising 0 (suc c.0) q (omega arith) (omega (arith, below))) in
    let rest = sum-listed k (but h x) n xs
    (λ i j d less below. rising (suc i) (suc j) d (omega (arith, less)) (omega (arith, below)))
    (λ q c.
    let t = there q (Contains-append_right (x ∷ []) xs q c) in
    let over = later q c in
    (t.0, but-other h x q (λ same. absurd (omega (arith, over, same))) ∙ t.1))
    (λ q out. elim (cases_eq q x) [
      | inl same ↦ but-here h x q same
      | inr other_one ↦ but-other h x q other_one ∙ away q (λ c. elim (Contains-cases x xs q c) [
        | inl first ↦ other_one (sym first)
        | inr found ↦ out found
      ])
    ]) in
    let changed = total-changed h (but h x) x n here.0 (λ q other_one. sym (but-other h x q other_one)) in
    let none = but-here h x x refl in
    omega (arith, rest, changed, none, is, sum_by-cons k x xs)

-- ---- a play

-- a weight of what a place holds
abbrev pub Weight : Type 0
Weight = Cell → ℕ → ℕ

-- an empty point has none
abbrev pub SparesEmpty : Weight → Type 0
SparesEmpty w = (q : ℕ) → w Empty q ≡ 0

dec_sum : {A : Type 0} → Dec A → A ⊎ (A → ⊥)
dec_sum (yes a) = inl a
dec_sum (no k) = inr k

-- what the taken stones and the new one weigh
taken_weight : Weight → List Cell → Colour → ℕ → ℕ → ℕ
taken_weight w board c p q =
    pick (dec_sum (captured? (set board p (stone c)) (other c) q)) (w (stone (other c)) q) 0

own_weight : Weight → Colour → ℕ → ℕ → ℕ
own_weight w c p q = pick (cases_eq q p) (w (stone c) q) 0

-- at each place the weights add up to the same
each-place : (w : Weight) (board : List Cell) (c : Colour) (p q : ℕ) → SparesEmpty w → at board p ≡ Empty
    → w (at (play board c p) q) q + taken_weight w board c p q ≡ w (at board q) q + own_weight w c p q
unfolding taken_weight own_weight
each-place w board c p q spares empty =
    let zero : w Empty q ≡ 0 = spares q in
    elim (cases_eq q p) [
      | inl same ↦
          let none : at board q ≡ Empty = ap (at board) same ∙ empty in
          let f = ap (λ (x : Cell). w x q) (ap (at (play board c p)) same ∙ (play-leaves board c p empty).played) in
          let h = pick-no (dec_sum (captured? (set board p (stone c)) (other c) q)) (w (stone (other c)) q) 0
          (λ taken. IsStone-filled (at board q) (captured-gone board c p q empty taken).stood none) in
          let g = ap (λ (x : Cell). w x q) none in
          let d = pick-yes (cases_eq q p) (w (stone c) q) 0 same in
          omega (arith, f, h, g, d, zero)
      | inr away ↦ elim (dec_sum (captured? (set board p (stone c)) (other c) q)) [
        | inl taken ↦
            let f = ap (λ (x : Cell). w x q) ((play-leaves board c p empty).taken q taken) in
            let h =
            pick-yes (dec_sum (captured? (set board p (stone c)) (other c) q)) (w (stone (other c)) q) 0 taken in
            let g = ap (λ (x : Cell). w x q) (sym (get_or-set_other board p q (stone c) Edge away) ∙ taken.0) in
            let d = pick-no (cases_eq q p) (w (stone c) q) 0 away in
            omega (arith, f, h, g, d, zero)
        | inr left ↦
            let f = ap (λ (x : Cell). w x q) ((play-leaves board c p empty).others q away left) in
            let h =
            pick-no (dec_sum (captured? (set board p (stone c)) (other c) q)) (w (stone (other c)) q) 0 left in
            let d = pick-no (cases_eq q p) (w (stone c) q) 0 away in
            omega (arith, f, h, d)
      ]
    ]

-- the weight of all places
abbrev pub weight : Weight → List Cell → ℕ
weight w board = total (λ q. w (at board q) q) 702

-- they are the stones that a play takes, each once
pub record AreTakenBy (board : List Cell) (c : Colour) (p : ℕ) (taken : List ℕ) : Type 0 where
  pub rising : AllPairs (λ p q. p < q) taken
  pub each : (q : ℕ) → Contains taken q → IsCaptured (set board p (stone c)) (other c) q
  pub all : (q : ℕ) → IsCaptured (set board p (stone c)) (other c) q → Contains taken q

-- so do their sums
pub play-weighs : (w : Weight) (board : List Cell) (c : Colour) (p : ℕ) (taken : List ℕ) → SparesEmpty w
    → length board ≡ 702 → at board p ≡ Empty → AreTakenBy board c p taken
    → weight w (play board c p) + sum_by (w (stone (other c))) taken ≡ weight w board + w (stone c) p
unfolding taken_weight own_weight
play-weighs w board c p taken spares long empty a =
    let f : ℕ → ℕ = λ q. w (at (play board c p) q) q in
    let g : ℕ → ℕ = λ q. w (at board q) q in
    let h = taken_weight w board c p in
    let d = own_weight w c p in
    let both : ℕ → ℕ = λ q. f q + h q in
    let here : p < 702 = omega (arith, long, in_list board p (empty-point board p empty)) in
    let left = total-add f h both 702 (λ q _. refl) in
    let right = total-add g d both 702 (λ q _. each-place w board c p q spares empty) in
    let own = total-only d p 702 here (λ q away. pick-no (cases_eq q p) (w (stone c) q) 0 away) in
    let key = pick-yes (cases_eq p p) (w (stone c) p) 0 refl in
    let listed = sum-listed (w (stone (other c))) h 702 taken a.rising
    (λ q found.
    let captured = a.each q found in
    let stood = (captured-gone board c p q empty captured).stood in
    let within = in_list board q (IsStone-point (at board q) stood) in (
      omega (arith, within, long),
      pick-yes (dec_sum (captured? (set board p (stone c)) (other c) q)) (w (stone (other c)) q) 0 captured,
    ))
    (λ q out. pick-no (dec_sum (captured? (set board p (stone c)) (other c) q)) (w (stone (other c)) q) 0
    (λ captured. out (a.all q captured))) in
    omega (arith, left, right, own, key, listed)
