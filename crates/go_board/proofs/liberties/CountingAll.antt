-- Pseudo-liberties counted place by place.
use Rattle.std.proofs.Common.{◌≡◌, ℕ, ◌+◌, ◌<◌, ◌≤◌, List, length, replicate, sym, ◌∙◌, ap, arith}
use Rattle.std.proofs.Common.{Bool, true, false, cond}
use Rattle.std.specs.Prelude.{◌==◌, ◌&&◌}
use Rattle.std.proofs.lemmas.List.{get_or-replicate}
use Rattle.std.proofs.Math.ListN.{set, length-set}
use Rattle.go_board.specs.Board.{at}
use Rattle.go_board.specs.private.ChainId.{id_of, is_stone, empty_beside, share, ArePseudoLiberties, count_at}
use Rattle.go_board.specs.declared.board.Cell.{Cell}
use Rattle.go_board.proofs.Sums.{total, total-zero, total-at_most, total-more}
use Rattle.go_board.proofs.liberties.FillingPoints.{pseudo_liberties-total}
use Rattle.go_board.proofs.liberties.MergingIds.{share-four}
use Rattle.go_board.proofs.liberties.Shares.{gains-share}
use Rattle.go_board.proofs.liberties.PseudoLiberties.{stone-from_test}

-- each id counts the shares of the places below n
pub record IsCounting (board : List Cell) (ids : List ℕ) (n : ℕ) (counts : List ℕ) : Type 0 where
  pub length_is : length counts ≡ 702
  pub each : (k : ℕ) → k < 702 → count_at counts k ≡ total (share board ids k) n

pub IsCounting-none : (board : List Cell) (ids counts : List ℕ) → counts ≡ replicate 702 0
    → IsCounting board ids 0 counts
IsCounting-none board ids counts none = record {
  length_is = ap length none;
  each =
      λ k below. ap (λ (cs : List ℕ). count_at cs k) none ∙ get_or-replicate 702 k 0 0 below
      ∙ sym (total-zero (share board ids k));
}

share-none : (board : List Cell) (ids : List ℕ) (k p : ℕ) → is_stone (at board p) ≡ false
    → share board ids k p ≡ 0
share-none board ids k p e = ap (λ (b : Bool). cond (b && (id_of ids p == k)) (empty_beside board p) 0) e

pub IsCounting-past : (board : List Cell) (ids : List ℕ) (n : ℕ) (counts : List ℕ) → is_stone (at board n) ≡ false
    → IsCounting board ids n counts → IsCounting board ids (n + 1) counts
IsCounting-past board ids n counts none c = record {
  length_is = c.length_is;
  each = λ k below. let so_far = c.each k below in
      let zero_share = share-none board ids k n none in
      omega (arith, so_far, zero_share, total-more (share board ids k) n);
}

pub IsCounting-stone : (board : List Cell) (ids : List ℕ) (n id more : ℕ) (counts new : List ℕ)
    → is_stone (at board n) ≡ true → id ≡ id_of ids n → id < 702 → more ≡ empty_beside board n
    → new ≡ set counts id (count_at counts id + more) → IsCounting board ids n counts
    → IsCounting board ids (n + 1) new
IsCounting-stone board ids n id more counts new stone is l more_is made c = record {
  length_is = ap length made ∙ length-set counts id (count_at counts id + more) ∙ c.length_is;
  each = λ k below.
      let now = gains-share board ids counts new n id more k (stone-from_test (at board n) stone) is more_is
      (omega (arith, l, c.length_is)) made in
      let so_far = c.each k below in
      omega (arith, now, so_far, total-more (share board ids k) n);
}

pub IsCounting-few : (board : List Cell) (ids : List ℕ) (n k : ℕ) (counts : List ℕ) → n ≤ 702 → k < 702
    → IsCounting board ids n counts → count_at counts k ≤ 2808
IsCounting-few board ids n k counts h below c =
    let is = c.each k below in
    let most = total-at_most (share board ids k) 4 n (λ p. share-four board ids k p) in
    omega (arith, is, most, h)

pub ArePseudoLiberties-counted : (board : List Cell) (ids : List ℕ) (n : ℕ) (counts : List ℕ) → n ≡ 702
    → IsCounting board ids n counts → ArePseudoLiberties board ids counts
ArePseudoLiberties-counted board ids n counts all c = record {
  length_is = c.length_is;
  each = λ k below. c.each k below ∙ ap (total (share board ids k)) all ∙ sym (pseudo_liberties-total board ids k);
}
