-- The pseudo-liberties when a stone is removed.
use Rattle.std.proofs.Common.{◌≡◌, ℕ, ◌+◌, ◌-◌, ◌<◌, ◌≤◌, List, length, refl, sym, ◌∙◌, ap, subst, arith, inl, inr}
use Rattle.std.proofs.Common.{true, false, cond, get_or-set_other, get_or-set_same}
use Rattle.std.specs.Prelude.{◌==◌}
use Rattle.std.proofs.lemmas.List.{ext_get_or}
use Rattle.std.proofs.Math.ListN.{set, length-set}
use Rattle.go_base.specs.Point.{IsOn}
use Rattle.go_base.specs.Size.{most_size}
use Rattle.go_board.specs.Board.{at, IsStone}
use Rattle.go_board.specs.private.ChainId.{id_of, ids_beside, is_empty, is_stone, empty_beside, share}
use Rattle.go_board.specs.private.ChainId.{pseudo_liberties, ArePseudoLiberties, count_at}
use Rattle.go_board.specs.private.Steps.{AreRaised, IsBelow}
use Rattle.go_board.specs.declared.board.Cell.{Cell}
use Rattle.go_board.specs.declared.board.Cell.TheVariants.{Edge, Empty, Black, White}
use Rattle.go_board.proofs.captures.CapturedStones.{in_list}
use Rattle.go_board.proofs.ids.Paths.{IsStone-point}
use Rattle.go_board.proofs.liberties.FillingPoints.{pseudo_liberties-filled}
use Rattle.go_board.proofs.liberties.MergingIds.{pseudo_liberties-few}
use Rattle.go_board.proofs.liberties.PseudoLiberties.{stone-test}
use Rattle.std.proofs.lemmas.Bool.{cases_eq}
use Rattle.go_board.proofs.boards.Neighbours.{IsOn-inside}
use Rattle.go_board.proofs.liberties.Shares.{loses-share, count_at-changed, share-few}

-- a stone that is placed again gives the board of before
restore : (board : List Cell) (p : ℕ) → p < length board → set (set board p Empty) p (at board p) ≡ board
restore board p below =
    ext_get_or Edge (set (set board p Empty) p (at board p)) board
    (length-set (set board p Empty) p (at board p) ∙ length-set board p Empty) (λ q _. elim (cases_eq q p) [
      | inl is ↦
          ap (at (set (set board p Empty) p (at board p))) is
          ∙ get_or-set_same (set board p Empty) p (at board p) Edge
          (let l = length-set board p Empty in omega (arith, below, l))
          ∙ ap (at board) (sym is)
      | inr another ↦ get_or-set_other (set board p Empty) p q (at board p) Edge another
          ∙ get_or-set_other board p q Empty Edge another
    ])

-- what the counts become
pub pseudo_liberties-removed : (board : List Cell) (ids : List ℕ) (k p : ℕ) → IsOn most_size p → IsStone (at board p)
    → pseudo_liberties (set board p Empty) ids k + share board ids k p
    ≡ pseudo_liberties board ids k + ids_beside (set board p Empty) ids k p
pseudo_liberties-removed board ids k p on s =
    let below = in_list board p (IsStone-point (at board p) s) in
    subst (λ (b : List Cell). pseudo_liberties (set board p Empty) ids k + share b ids k p
    ≡ pseudo_liberties b ids k + ids_beside (set board p Empty) ids k p) (restore board p below)
    (pseudo_liberties-filled (set board p Empty) ids ids k p (at board p) (IsOn-inside p on)
    (get_or-set_same board p Empty Edge below) (no_empty s) (λ _ _. refl))
  where
    no_empty : {x : Cell} → IsStone x → is_empty x ≡ false
    no_empty {x} s = by_cell x (stone-test x s)
      where
        by_cell : (x : Cell) → is_stone x ≡ true → is_empty x ≡ false
        by_cell Black e = refl
        by_cell White e = refl
        by_cell Edge e = refl
        by_cell Empty e = cc

-- after the id's count went down
pub IsBelow-lessened : (board : List Cell) (ids counts new : List ℕ) (id less : ℕ) → ArePseudoLiberties board ids counts
    → new ≡ set counts id (count_at counts id - less) → id < 702
    → IsBelow 2808 new
IsBelow-lessened board ids counts new id less a made l k below =
    let now : count_at new k ≡ count_at counts k - cond (id == k) less 0 =
    ap (λ (cs : List ℕ). count_at cs k) made
    ∙ count_at-changed (λ n m. n - m) (λ n. omega arith) counts id less k (omega (arith, l, a.length_is)) in
    let is = a.each k below in
    omega (arith, now, is, pseudo_liberties-few board ids k)

-- A stone is removed: its id loses its share, and the neighbours' ids each get one more.
pub ArePseudoLiberties-removed : (board cells : List Cell) (ids c0 c1 c2 : List ℕ) (p id less : ℕ) → IsOn most_size p
    → IsStone (at board p) → ArePseudoLiberties board ids c0 → cells ≡ set board p Empty → id ≡ id_of ids p
    → id < 702 → less ≡ empty_beside board p → c1 ≡ set c0 id (count_at c0 id - less)
    → AreRaised cells ids c1 c2 p → ArePseudoLiberties cells ids c2
ArePseudoLiberties-removed board cells ids c0 c1 c2 p id less on s a is own l less_is taken raised = record {
  length_is =
      raised.length_is ∙ ap length taken ∙ length-set c0 id (count_at c0 id - less) ∙ a.length_is;
  each = λ k below.
      let more = raised.each k below in
      let now : pseudo_liberties cells ids k + share board ids k p
      ≡ pseudo_liberties board ids k + ids_beside cells ids k p =
      subst (λ (b : List Cell). pseudo_liberties b ids k + share board ids k p
      ≡ pseudo_liberties board ids k + ids_beside b ids k p) (sym is) (pseudo_liberties-removed board ids k p on s) in
      let was = a.each k below in
      let gone = loses-share board ids c0 c1 p id less k s own less_is (omega (arith, l, a.length_is)) taken in
      let few = share-few board ids k p (in_range p on) in
      up _ _ _ _ _ _ more now was gone few;
}
  where
    in_range : (p : ℕ) → IsOn most_size p → p < 702
    in_range p on = let high = (IsOn-inside p on).high in omega (arith, high)

    up : (n2 n1 n0 beside share after : ℕ) → n2 ≡ n1 + beside → {before : ℕ} → after + share ≡ before + beside
        → n0 ≡ before → n1 ≡ n0 - share → share ≤ before → n2 ≡ after
    up n2 n1 n0 beside share after more now was gone few = omega (arith, more, now, was, gone, few)
