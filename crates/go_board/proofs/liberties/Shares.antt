-- What one stone adds to the pseudo-liberties of its chain.
use Rattle.std.proofs.Common.{◌≡◌, ℕ, ◌+◌, ◌-◌, ◌<◌, ◌≤◌, List, length, refl, sym, ◌∙◌, ap, subst, arith, inl, inr}
use Rattle.std.proofs.Common.{Bool, cond, get_or-set_other, get_or-set_same}
use Rattle.std.specs.Prelude.{◌==◌, ◌&&◌}
use Rattle.std.proofs.lemmas.Bool.{eq-eqb, ne_eqb, cases_eq}
use Rattle.std.proofs.Math.ListN.{set}
use Rattle.go_board.specs.Board.{at, IsStone}
use Rattle.go_board.specs.private.ChainId.{id_of, empty_beside, share, pseudo_liberties, count_at}
use Rattle.go_board.specs.declared.board.Cell.{Cell}
use Rattle.go_board.proofs.Sums.{total-at_least}
use Rattle.go_board.proofs.liberties.FillingPoints.{pseudo_liberties-total}
use Rattle.go_board.proofs.liberties.PseudoLiberties.{stone-test}

-- one number of a list goes up or down, and the others stay
pub count_at-changed : (f : ℕ → ℕ → ℕ) → ((n : ℕ) → f n 0 ≡ n) → (counts : List ℕ) (id by k : ℕ) → id < length counts
    → count_at (set counts id (f (count_at counts id) by)) k ≡ f (count_at counts k) (cond (id == k) by 0)
count_at-changed f none counts id by k below = elim (cases_eq k id) [
  | inl e ↦ subst (λ (j : ℕ). count_at (set counts id (f (count_at counts id) by)) j
      ≡ f (count_at counts j) (cond (id == j) by 0)) (sym e)
      (get_or-set_same counts id (f (count_at counts id) by) 0 below
      ∙ ap (λ (b : Bool). f (count_at counts id) (cond b by 0)) (sym (eq-eqb id id refl)))
  | inr o ↦ get_or-set_other counts id k (f (count_at counts id) by) 0 o ∙ sym (none (count_at counts k))
      ∙ ap (λ (b : Bool). f (count_at counts k) (cond b by 0)) (sym (ne_eqb id k (λ e. o (sym e))))
]

-- a stone's share, by its id
pub share-stone : (board : List Cell) (ids : List ℕ) (k p : ℕ) → IsStone (at board p)
    → share board ids k p ≡ cond (id_of ids p == k) (empty_beside board p) 0
share-stone board ids k p s =
    ap (λ (b : Bool). cond (b && (id_of ids p == k)) (empty_beside board p) 0) (stone-test (at board p) s)

-- where the number of the stone's id changes by the stone's empty neighbours, each changes by the stone's share
pub changed-by_share : (f : ℕ → ℕ → ℕ) → ((n : ℕ) → f n 0 ≡ n) → (board : List Cell) (ids counts new : List ℕ)
    (p id by k : ℕ) → IsStone (at board p) → id ≡ id_of ids p → by ≡ empty_beside board p → id < length counts
    → new ≡ set counts id (f (count_at counts id) by) → count_at new k ≡ f (count_at counts k) (share board ids k p)
changed-by_share f none board ids counts new p id by k s own by_is below made =
    ap (λ (cs : List ℕ). count_at cs k) made ∙ count_at-changed f none counts id by k below
    ∙ ap (f (count_at counts k)) (ap (λ (i : ℕ). cond (i == k) by 0) own
    ∙ ap (λ (n : ℕ). cond (id_of ids p == k) n 0) by_is ∙ sym (share-stone board ids k p s))

pub gains-share : (board : List Cell) (ids counts new : List ℕ) (p id more k : ℕ) → IsStone (at board p)
    → id ≡ id_of ids p → more ≡ empty_beside board p → id < length counts
    → new ≡ set counts id (count_at counts id + more) → count_at new k ≡ count_at counts k + share board ids k p
gains-share = changed-by_share (λ n m. n + m) (λ n. omega arith)

pub loses-share : (board : List Cell) (ids counts new : List ℕ) (p id less k : ℕ) → IsStone (at board p)
    → id ≡ id_of ids p → less ≡ empty_beside board p → id < length counts
    → new ≡ set counts id (count_at counts id - less) → count_at new k ≡ count_at counts k - share board ids k p
loses-share = changed-by_share (λ n m. n - m) (λ n. omega arith)

-- it is a part of the whole
pub share-few : (board : List Cell) (ids : List ℕ) (k p : ℕ) → p < 702
    → share board ids k p ≤ pseudo_liberties board ids k
share-few board ids k p below =
    let least = total-at_least (share board ids k) p 702 below in
    let is = pseudo_liberties-total board ids k in
    omega (arith, least, is)
