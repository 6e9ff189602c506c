-- The board before a play, restored from what it took; and how many stones there are.
use Rattle.std.proofs.Common.{◌≡◌, ℕ, ◌+◌, ◌<◌, List, length, refl, sym, ◌∙◌, ap, arith, inl, inr, Bool, cond}
use Rattle.std.proofs.Common.{get_or-set_other}
use Rattle.std.specs.Prelude.{◌≢◌, count_by}
use Rattle.std.specs.List.{range_with_len}
use Rattle.std.proofs.lemmas.List.{ext_get_or}
use Rattle.std.proofs.Math.ListN.{set, length-set}
use Rattle.go_base.specs.Colour.{other}
use Rattle.go_base.specs.declared.colours.Colour.{Colour}
use Rattle.go_board.specs.Board.{place_count, at, stone}
use Rattle.go_board.specs.Chain.{IsCaptured}
use Rattle.go_board.specs.decisions.Chain.{captured?}
use Rattle.go_board.specs.Play.{is_captured, captured_count, play, captures}
use Rattle.go_board.specs.private.ChainId.{is_stone}
use Rattle.go_board.specs.declared.board.Cell.{Cell}
use Rattle.go_board.specs.declared.board.Cell.TheVariants.{Edge, Empty}
use Rattle.go_board.proofs.captures.CapturedStones.{holds-yes, holds-no, in_list}
use Rattle.go_board.proofs.ids.Paths.{set-same}
use Rattle.go_board.proofs.ko_rules.PlaysTakenBack.{IsAfter, taken, left, after-play, taken-held}
use Rattle.go_board.proofs.liberties.PseudoLiberties.{stone-test}
use Rattle.go_board.proofs.boards.Cells.{empty-point}
use Rattle.go_board.proofs.liberties.FillingPoints.{one_at, one_at-same, one_at-other}
use Rattle.go_board.proofs.Sums.{total, total-add, total-only}
use Rattle.std.proofs.lemmas.Bool.{cases_eq}

-- The new stone is gone, each stone that it took is there again, and all else is as the play left it: that is the board
-- before the play.
pub undo-board : (board back : List Cell) (c : Colour) (p : ℕ) → at board p ≡ Empty → length back ≡ length board
    → at back p ≡ Empty
    → ((q : ℕ) → IsCaptured (set board p (stone c)) (other c) q → at back q ≡ stone (other c))
    → ((q : ℕ) → q ≢ p → ¬ IsCaptured (set board p (stone c)) (other c) q → at back q ≡ at (play board c p) q)
    → back ≡ board
undo-board board back c p empty long gone again rest =
    ext_get_or Edge back board long (λ q _. each q (after-play board c p q))
  where
    each : (q : ℕ) → IsAfter board c p q → at back q ≡ at board q
    each q (taken h _) = again q h ∙ sym (taken-held board c p q empty h)
    each q (left k e) = elim (cases_eq q p) [
      | inl is ↦ ap (at back) is ∙ gone ∙ sym empty ∙ ap (at board) (sym is)
      | inr another ↦ rest q another k ∙ e ∙ get_or-set_other board p q (stone c) Edge another
    ]

-- ---- how many stones

unfoldable pub one : Bool → ℕ
one b = cond b 1 0

-- how many stones are on the board
unfoldable pub stone_count : List Cell → ℕ
stone_count board = count_by (λ p. is_stone (at board p)) (range_with_len 0 place_count)

pub stone_total : (board : List Cell) → stone_count board ≡ total (λ q. one (is_stone (at board q))) 702
unfolding stone_count total one
stone_total board = refl

captured_total : (board : List Cell) (c : Colour) → length board ≡ 702
    → captured_count board c ≡ total (λ q. one (is_captured board c q)) 702
unfolding captured_count total one
captured_total board c long = ap (λ (n : ℕ). count_by (is_captured board c) (range_with_len 0 n)) long

-- a play adds one stone and takes the captured ones
pub stones-play : (board : List Cell) (c : Colour) (p : ℕ) → length board ≡ 702 → at board p ≡ Empty
    → stone_count (play board c p) + captures board c p ≡ stone_count board + 1
unfolding captures one
stones-play board c p long empty =
    let cells : List Cell = set board p (stone c) in
    let after : ℕ → ℕ = λ q. one (is_stone (at (play board c p) q)) in
    let gone : ℕ → ℕ = λ q. one (is_captured cells (other c) q) in
    let before : ℕ → ℕ = λ q. one (is_stone (at board q)) in
    let with : ℕ → ℕ = λ q. one (is_stone (at cells q)) in
    let s1 = total-add after gone with 702 (λ q _. sym (left_or_taken q (after-play board c p q))) in
    let s2 = total-add before (one_at p) with 702 (λ q _. sym (with_new q)) in
    let s3 : total (one_at p) 702 ≡ 1 =
    total-only (one_at p) p 702 (in_board p (empty-point board p empty)) (λ q another. one_at-other p q another)
    ∙ one_at-same p p refl in
    let t1 = stone_total (play board c p) in
    let t2 = stone_total board in
    let t3 = captured_total cells (other c) (length-set board p (stone c) ∙ long) in
    omega (arith, s1, s2, s3, t1, t2, t3)
  where
    in_board : (q : ℕ) → at board q ≢ Edge → q < 702
    in_board q point = let below = in_list board q point in omega (arith, below, long)

    with_new : (q : ℕ) → one (is_stone (at board q)) + one_at p q ≡ one (is_stone (at (set board p (stone c)) q))
    with_new q = elim (cases_eq q p) [
      | inl is ↦
          let a : one (is_stone (at board q)) ≡ 0 =
          ap (λ (k : ℕ). one (is_stone (at board k))) is ∙ ap (λ (x : Cell). one (is_stone x)) empty in
          let b : one (is_stone (at (set board p (stone c)) q)) ≡ 1 =
          ap (λ (k : ℕ). one (is_stone (at (set board p (stone c)) k))) is
          ∙ ap (λ (x : Cell). one (is_stone x)) (set-same board p (stone c) empty)
          ∙ ap one (stone-test (stone c) (c, refl)) in
          omega (arith, a, b, one_at-same p q is)
      | inr another ↦
          let a : one (is_stone (at (set board p (stone c)) q)) ≡ one (is_stone (at board q)) =
          ap (λ (x : Cell). one (is_stone x)) (get_or-set_other board p q (stone c) Edge another) in
          omega (arith, a, one_at-other p q another)
    ]

    left_or_taken : (q : ℕ) → IsAfter board c p q
        → one (is_stone (at (play board c p) q)) + one (is_captured (set board p (stone c)) (other c) q)
        ≡ one (is_stone (at (set board p (stone c)) q))
    left_or_taken q (taken h e) =
        let a = ap (λ (x : Cell). one (is_stone x)) e in
        let b = ap one (holds-yes (captured? (set board p (stone c)) (other c) q) h) in
        let d = ap one (stone-test (at (set board p (stone c)) q) (other c, h.0)) in
        omega (arith, a, b, d)
    left_or_taken q (left k e) =
        let a = ap (λ (x : Cell). one (is_stone x)) e in
        let b = ap one (holds-no (captured? (set board p (stone c)) (other c) q) k) in
        omega (arith, a, b)
