-- The pseudo-liberties when a stone gets another id.
use Rattle.std.proofs.Common.{◌≡◌, ℕ, ◌+◌, ◌-◌, ◌<◌, ◌≤◌, List, length, sym, ◌∙◌, ap, arith}
use Rattle.std.proofs.Common.{cond, get_or-set_other, get_or-set_same}
use Rattle.std.specs.Prelude.{◌==◌, ◌&&◌}
use Rattle.std.proofs.Math.ListN.{set, length-set}
use Rattle.go_board.specs.Board.{at, IsStone}
use Rattle.go_board.specs.private.ChainId.{id_of, is_stone, empty_beside, share, pseudo_liberties, ArePseudoLiberties}
use Rattle.go_board.specs.private.ChainId.{count_at}
use Rattle.go_board.specs.declared.board.Cell.{Cell}
use Rattle.go_board.proofs.Sums.{total-changed}
use Rattle.go_board.proofs.liberties.FillingPoints.{pseudo_liberties-total}
use Rattle.go_board.proofs.liberties.Shares.{loses-share, gains-share, share-few}

-- an id's pseudo-liberties change by the stone's share
pseudo_liberties-id_changed : (board : List Cell) (ids : List ℕ) (k p id : ℕ) → p < 702
    → pseudo_liberties board ids k + share board (set ids p id) k p
    ≡ pseudo_liberties board (set ids p id) k + share board ids k p
pseudo_liberties-id_changed board ids k p id below =
    let a = pseudo_liberties-total board ids k in
    let b = pseudo_liberties-total board (set ids p id) k in
    let changed =
    total-changed (share board ids k) (share board (set ids p id) k) p 702 below
    (λ q another. ap (λ (l : ℕ). cond (is_stone (at board q) && (l == k)) (empty_beside board q) 0)
    (sym (get_or-set_other ids p q id 0 another))) in
    omega (arith, a, b, changed)

-- A stone gets another id: its share goes over.
pub ArePseudoLiberties-id_changed : (board : List Cell) (ids c0 c1 c2 : List ℕ) (p from to own : ℕ) → p < 702
    → IsStone (at board p) → length ids ≡ 702 → ArePseudoLiberties board ids c0
    → from ≡ id_of ids p → from < 702 → to < 702 → own ≡ empty_beside board p
    → c1 ≡ set c0 from (count_at c0 from - own) → c2 ≡ set c1 to (count_at c1 to + own)
    → ArePseudoLiberties board (set ids p to) c2
ArePseudoLiberties-id_changed board ids c0 c1 c2 p from to own below s long a from_is f t own_is taken added = record {
  length_is = long2;
  each = λ k k_below.
      let gone = loses-share board ids c0 c1 p from own k s from_is own_is (omega (arith, f, a.length_is)) taken in
      let come = gains-share board (set ids p to) c1 c2 p to own k s (sym new_id) own_is (omega (arith, t, long1))
      added in
      let was = a.each k k_below in
      let few = share-few board ids k p below in
      let changed = pseudo_liberties-id_changed board ids k p to below in
      over _ _ _ _ _ _ _ gone come was few changed;
}
  where
    long1 : length c1 ≡ 702
    long1 = ap length taken ∙ length-set c0 from (count_at c0 from - own) ∙ a.length_is

    long2 : length c2 ≡ 702
    long2 =
        ap length added ∙ length-set c1 to (count_at c1 to + own) ∙ ap length taken
        ∙ length-set c0 from (count_at c0 from - own) ∙ a.length_is

    new_id : id_of (set ids p to) p ≡ to
    new_id = get_or-set_same ids p to 0 (omega (arith, below, long))

    over : (n2 n1 n0 had has old new : ℕ) → n1 ≡ n0 - had → n2 ≡ n1 + has → n0 ≡ old → had ≤ old → old + has ≡ new + had
        → n2 ≡ new
    over n2 n1 n0 had has old new gone come was few changed = omega (arith, gone, come, was, few, changed)
