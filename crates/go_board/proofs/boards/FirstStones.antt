-- There are at most nine stones before the first move.
use Rattle.std.proofs.Common.{◌≡◌, ℕ, ◌+◌, ◌≤◌, List, [], ◌∷◌, length, refl, ◌∙◌, ap, arith, inl, inr, lit≤, Bool}
use Rattle.std.proofs.Common.{true, false, cond, get_or-set_other}
use Rattle.std.specs.Prelude.{◌⊎◌}
use Rattle.std.proofs.Math.ListN.{set}
use Rattle.go_base.specs.Handicap.{handicap_points, AllowsHandicap}
use Rattle.go_base.proofs.board_points.HandicapPoints.{handicap_bounds}
use Rattle.go_board.specs.Board.{at, empty_board, with_black}
use Rattle.go_board.specs.Game.{start}
use Rattle.go_board.specs.private.ChainId.{is_stone}
use Rattle.go_board.specs.declared.board.Cell.{Cell}
use Rattle.go_board.specs.declared.board.Cell.TheVariants.{Edge, Black}
use Rattle.go_board.proofs.liberties.FillingPoints.{one_at, one_at-same, one_at-other}
use Rattle.go_board.proofs.boards.HandicapPoints.{by_number}
use Rattle.go_board.proofs.captures.FreeStones.{empty-no_stone}
use Rattle.go_board.proofs.liberties.PseudoLiberties.{stone-from_test}
use Rattle.go_board.proofs.boards.FirstBoard.{start-none}
use Rattle.go_board.proofs.Sums.{total, total-add, total-le, total-none, total-only}
use Rattle.go_board.proofs.undo.BoardsBefore.{one, stone_count, stone_total}
use Rattle.std.proofs.lemmas.Bool.{cases_eq, cases_lt}

one-few : (b : Bool) → cond {A = ℕ} b 1 0 ≤ 1
one-few true = omega arith
one-few false = omega arith

-- one more number is at most one more
one_at-total : (p n : ℕ) → total (one_at p) n ≤ 1
one_at-total p n = elim (cases_lt p n) [
  | inl below ↦ let is = total-only (one_at p) p n below (λ q another. one_at-other p q another) in
      let at_p = one_at-same p p refl in
      omega (arith, is, at_p)
  | inr past ↦
      let is = total-none (one_at p) n (λ q below. one_at-other p q (λ e. absurd (omega (arith, below, past, e)))) in
      omega
      (arith, is)
]

stones-set : (board : List Cell) (p : ℕ) (x : Cell) → stone_count (set board p x) ≤ stone_count board + 1
unfolding one
stones-set board p x =
    let before : ℕ → ℕ = λ q. one (is_stone (at board q)) in
    let after : ℕ → ℕ = λ q. one (is_stone (at (set board p x) q)) in
    let both : ℕ → ℕ = λ q. before q + one_at p q in
    let least = total-le after both 702 (λ q. each q) in
    let sum = total-add before (one_at p) both 702 (λ q _. refl) in
    let few = one_at-total p 702 in
    let t1 = stone_total (set board p x) in
    let t2 = stone_total board in
    omega (arith, least, sum, few, t1, t2)
  where
    each : (q : ℕ) → one (is_stone (at (set board p x) q)) ≤ one (is_stone (at board q)) + one_at p q
    each q = elim (cases_eq q p) [
      | inl is ↦ let a = one-few (is_stone (at (set board p x) q)) in let b = one_at-same p q is in omega (arith, a, b)
      | inr another ↦
          let a : one (is_stone (at (set board p x) q)) ≡ one (is_stone (at board q)) =
          ap (λ (y : Cell). one (is_stone y)) (get_or-set_other board p q x Edge another) in
          omega (arith, a)
    ]

stones-with_black : (board : List Cell) (points : List ℕ)
    → stone_count (with_black board points) ≤ stone_count board + length points
stones-with_black board [] = omega arith
stones-with_black board (p ∷ ps) =
    let first = stones-set board p Black in
    let rest = stones-with_black (set board p Black) ps in
    omega (arith, first, rest)

stones-empty : (size : ℕ) → stone_count (empty_board size) ≡ 0
unfolding one
stones-empty size =
    stone_total (empty_board size)
    ∙ total-none (λ q. one (is_stone (at (empty_board size) q))) 702
    (λ q _. none q (is_stone (at (empty_board size) q)) refl)
  where
    none : (q : ℕ) (b : Bool) → is_stone (at (empty_board size) q) ≡ b → cond {A = ℕ} b 1 0 ≡ 0
    none q true e = absurd (empty-no_stone size q (stone-from_test (at (empty_board size) q) e))
    none q false e = refl

points-few : (size n : ℕ) → 2 ≤ n → n ≤ 9 → length (handicap_points size n) ≤ 9
unfolding handicap_points
points-few size =
    by_number (λ n. length (handicap_points size n) ≤ 9) (lit≤ tt) (lit≤ tt) (lit≤ tt) (lit≤ tt) (lit≤ tt) (lit≤ tt)
    (lit≤ tt) (lit≤ tt)

pub stones-start : (size stones : ℕ) → (stones ≡ 0) ⊎ AllowsHandicap size stones → stone_count (start size stones) ≤ 9
unfolding start
stones-start size stones (inl none) = let is = ap stone_count (ap (start size) none ∙ start-none size) in
    let zeros = stones-empty size in
    omega (arith, is, zeros)
stones-start size stones (inr allowed) =
    let bounds = handicap_bounds size stones allowed in
    let sum = stones-with_black (empty_board size) (handicap_points size stones) in
    let few = points-few size stones bounds.least bounds.most in
    let zeros = stones-empty size in
    omega (arith, sum, few, zeros)
