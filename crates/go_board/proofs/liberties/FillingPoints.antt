-- What a stone that is placed on an empty point, or removed, does to pseudo-liberties.
use Rattle.std.proofs.Common.{◌≡◌, ℕ, ◌+◌, ◌-◌, ◌<◌, ◌≤◌, List, refl, sym, ◌∙◌, ap, arith, inl, inr, Bool, true, false}
use Rattle.std.proofs.Common.{cond, get_or-set_other, get_or-set_same}
use Rattle.std.specs.Prelude.{◌≢◌, ◌==◌, if◌then◌else◌, ◌&&◌}
use Rattle.std.proofs.Math.ListN.{set}
use Rattle.go_board.specs.Board.{at}
use Rattle.go_board.specs.private.ChainId.{id_of, is_empty, is_stone, empty_at, empty_beside, has_id, share}
use Rattle.go_board.specs.private.ChainId.{ids_beside, pseudo_liberties}
use Rattle.go_board.specs.declared.board.Cell.{Cell}
use Rattle.go_board.specs.declared.board.Cell.TheVariants.{Edge, Empty}
use Rattle.go_board.proofs.captures.CapturedStones.{in_list}
use Rattle.go_board.proofs.Sums.{total, total-add, total-same, total-only}
use Rattle.std.proofs.lemmas.Bool.{eq-eqb, ne_eqb, cases_eq}
use Rattle.go_board.proofs.boards.Neighbours.{IsInside}
use Rattle.go_board.proofs.boards.Cells.{empty-point}

-- 1 where a number is p
pub one_at : ℕ → ℕ → ℕ
one_at p j = if j == p then 1 else 0

pub one_at-same : (p j : ℕ) → j ≡ p → one_at p j ≡ 1
unfolding one_at
one_at-same p j e = ap (λ (b : Bool). cond b 1 0) (eq-eqb j p e)

pub one_at-other : (p j : ℕ) → j ≢ p → one_at p j ≡ 0
unfolding one_at
one_at-other p j e = ap (λ (b : Bool). cond b 1 0) (ne_eqb j p e)

-- the point is no more empty, and all else is as it was
empty_at-filled : (board : List Cell) (p j : ℕ) (x : Cell) → at board p ≡ Empty → is_empty x ≡ false
    → empty_at board j ≡ empty_at (set board p x) j + one_at p j
empty_at-filled board p j x empty filled = elim (cases_eq j p) [
  | inl is ↦
      let point : at board p ≢ Edge = empty-point board p empty in
      let was : empty_at board j ≡ 1 =
      ap (λ (q : ℕ). empty_at board q) is ∙ ap (λ (c : Cell). cond (is_empty c) 1 0) empty in
      let now : empty_at (set board p x) j ≡ 0 =
      ap (λ (q : ℕ). empty_at (set board p x) q) is
      ∙ ap (λ (c : Cell). cond (is_empty c) 1 0) (get_or-set_same board p x Edge (in_list board p point))
      ∙ ap (λ (b : Bool). cond b 1 0) filled in
      omega (arith, was, now, one_at-same p j is)
  | inr another ↦
      let still : empty_at (set board p x) j ≡ empty_at board j =
      ap (λ (c : Cell). cond (is_empty c) 1 0) (get_or-set_other board p j x Edge another) in
      omega (arith, still, one_at-other p j another)
]

-- how often the point is beside another
beside : ℕ → ℕ → ℕ
beside p q = one_at p (q + 1) + one_at p (q - 1) + one_at p (q + 26) + one_at p (q - 26)

empty_beside-filled : (board : List Cell) (p q : ℕ) (x : Cell) → at board p ≡ Empty → is_empty x ≡ false
    → empty_beside board q ≡ empty_beside (set board p x) q + beside p q
unfolding beside
empty_beside-filled board p q x empty filled =
    let a = empty_at-filled board p (q + 1) x empty filled in
    let b = empty_at-filled board p (q - 1) x empty filled in
    let c = empty_at-filled board p (q + 26) x empty filled in
    let d = empty_at-filled board p (q - 26) x empty filled in
    omega (arith, a, b, c, d)

-- 1 where a place counts and a step from it leads to p
led : (ℕ → Bool) → ℕ → (ℕ → ℕ) → ℕ → ℕ
led has p step q = if has q then one_at p (step q) else 0

-- just one place is led to p
total-led : (has : ℕ → Bool) (p : ℕ) (step : ℕ → ℕ) (r n : ℕ) → r < n → step r ≡ p → ((q : ℕ) → q ≢ r → step q ≢ p)
    → total (led has p step) n ≡ cond (has r) 1 0
unfolding led
total-led has p step r n below to no_other =
    total-only (led has p step) r n below (λ q another. none (has q) q another) ∙ here (has r)
  where
    none : (b : Bool) (q : ℕ) → q ≢ r → cond b (one_at p (step q)) 0 ≡ 0
    none true q another = one_at-other p (step q) (no_other q another)
    none false q another = refl

    here : (b : Bool) → cond b (one_at p (step r)) 0 ≡ cond b 1 0
    here true = one_at-same p (step r) to
    here false = refl

-- the neighbours of a point inside are places, and steps from them lead to it
record Nearby (p : ℕ) : Type 0 where
  left_in : p - 1 < 702
  left_to : (p - 1) + 1 ≡ p
  right_in : p + 1 < 702
  right_to : (p + 1) - 1 ≡ p
  under_in : p - 26 < 702
  under_to : (p - 26) + 26 ≡ p
  above_in : p + 26 < 702
  above_to : (p + 26) - 26 ≡ p

nearby : (p : ℕ) → 27 ≤ p → p < 676 → Nearby p
nearby p low high = record {
  left_in = omega arith;
  left_to = omega arith;
  right_in = omega arith;
  right_to = omega arith;
  under_in = omega arith;
  under_to = omega arith;
  above_in = omega arith;
  above_to = omega arith;
}

from_left : (p q : ℕ) → 27 ≤ p → q ≢ p - 1 → q + 1 ≢ p
from_left p q low o e = o (omega arith)

from_right : (p q : ℕ) → 27 ≤ p → q ≢ p + 1 → q - 1 ≢ p
from_right p q low o e = o (omega arith)

from_under : (p q : ℕ) → 27 ≤ p → q ≢ p - 26 → q + 26 ≢ p
from_under p q low o e = o (omega arith)

from_above : (p q : ℕ) → 27 ≤ p → q ≢ p + 26 → q - 26 ≢ p
from_above p q low o e = o (omega arith)

-- the places beside which p is, added up, are the neighbours of p
total-beside : (has : ℕ → Bool) (p : ℕ) → IsInside p
    → total (λ q. if has q then beside p q else 0) 702
    ≡ cond (has (p + 1)) 1 0 + cond (has (p - 1)) 1 0 + cond (has (p + 26)) 1 0 + cond (has (p - 26)) 1 0
unfolding led beside
total-beside has p inside =
    let low = inside.low in
    let high = inside.high in
    let near = nearby p low high in
    let right : ℕ → ℕ = λ q. q + 1 in
    let left : ℕ → ℕ = λ q. q - 1 in
    let above : ℕ → ℕ = λ q. q + 26 in
    let under : ℕ → ℕ = λ q. q - 26 in
    let a = total-led has p right (p - 1) 702 near.left_in near.left_to (λ q o. from_left p q low o) in
    let b = total-led has p left (p + 1) 702 near.right_in near.right_to (λ q o. from_right p q low o) in
    let c = total-led has p above (p - 26) 702 near.under_in near.under_to (λ q o. from_under p q low o) in
    let d = total-led has p under (p + 26) 702 near.above_in near.above_to (λ q o. from_above p q low o) in
    let ab : ℕ → ℕ = λ q. led has p right q + led has p left q in
    let abc : ℕ → ℕ = λ q. ab q + led has p above q in
    let s1 = total-add (led has p right) (led has p left) ab 702 (λ q _. refl) in
    let s2 = total-add ab (led has p above) abc 702 (λ q _. refl) in
    let s3 = total-add abc (led has p under) (λ q. if has q then beside p q else 0) 702 (λ q _. split (has q) q) in
    omega (arith, a, b, c, d, s1, s2, s3)
  where
    split : (b : Bool) (q : ℕ)
        → cond b (beside p q) 0 ≡ ((cond b (one_at p (q + 1)) 0 + cond b (one_at p (q - 1)) 0)
        + cond b (one_at p (q + 26)) 0) + cond b (one_at p (q - 26)) 0
    split true q = refl
    split false q = refl

pub pseudo_liberties-total : (board : List Cell) (ids : List ℕ) (id : ℕ)
    → pseudo_liberties board ids id ≡ total (share board ids id) 702
unfolding pseudo_liberties total
pseudo_liberties-total board ids id = refl

-- An empty point is filled, and has the id of ids' there: each id's pseudo-liberties go down by the neighbours with
-- that id, and the point's own id gets its share.
pub pseudo_liberties-filled : (board : List Cell) (ids ids' : List ℕ) (id p : ℕ) (x : Cell) → IsInside p
    → at board p ≡ Empty → is_empty x ≡ false
    → ((q : ℕ) → q ≢ p → id_of ids' q ≡ id_of ids q)
    → pseudo_liberties board ids id + share (set board p x) ids' id p
    ≡ pseudo_liberties (set board p x) ids' id + ids_beside board ids id p
pseudo_liberties-filled board ids ids' id p x inside empty filled same =
    let high = inside.high in
    let cells : List Cell = set board p x in
    let own : ℕ = share cells ids' id p in
    let has : ℕ → Bool = has_id board ids id in
    let only : ℕ → ℕ = λ q. if q == p then own else 0 in
    let lost : ℕ → ℕ = λ q. if has q then beside p q else 0 in
    let before : ℕ → ℕ = λ q. share board ids id q + only q in
    let after : ℕ → ℕ = λ q. share cells ids' id q + lost q in
    let s1 = total-add (share board ids id) only before 702 (λ q _. refl) in
    let s2 = total-add (share cells ids' id) lost after 702 (λ q _. refl) in
    let s3 = total-same before after 702 (λ q _. at_place q) in
    let s4 : total only 702 ≡ own =
    total-only only p 702 (omega arith) (λ q another. ap (λ (b : Bool). cond b own 0) (ne_eqb q p another))
    ∙ ap (λ (b : Bool). cond b own 0) (eq-eqb p p refl) in
    let s5 : total lost 702 ≡ ids_beside board ids id p = total-beside has p inside in
    let c1 = pseudo_liberties-total board ids id in
    let c2 = pseudo_liberties-total cells ids' id in
    omega (arith, s1, s2, s3, s4, s5, c1, c2)
  where
    no_stone : has_id board ids id p ≡ false
    no_stone = ap (λ (c : Cell). is_stone c && (id_of ids p == id)) empty

    at_other : (b b' : Bool) (q : ℕ) → b' ≡ b
        → cond b (empty_beside board q) 0 ≡ cond b' (empty_beside (set board p x) q) 0 + cond b (beside p q) 0
    at_other true b' q e =
        empty_beside-filled board p q x empty filled
        ∙ ap (λ (c : Bool). cond c (empty_beside (set board p x) q) 0 + beside p q) (sym e)
    at_other false b' q e = ap (λ (c : Bool). cond c (empty_beside (set board p x) q) 0 + 0) (sym e)

    at_place : (q : ℕ) → share board ids id q + cond (q == p) (share (set board p x) ids' id p) 0
        ≡ share (set board p x) ids' id q + cond (has_id board ids id q) (beside p q) 0
    at_place q = elim (cases_eq q p) [
      | inl is ↦
          let was : has_id board ids id q ≡ false =
          ap (λ (r : ℕ). has_id board ids id r) is ∙ no_stone in
          let own = share (set board p x) ids' id p in
          let a : share board ids id q ≡ 0 = ap (λ (b : Bool). cond b (empty_beside board q) 0) was in
          let b : cond (q == p) own 0 ≡ own = ap (λ (b : Bool). cond b own 0) (eq-eqb q p is) in
          let c : share (set board p x) ids' id q ≡ own =
          ap (λ (r : ℕ). share (set board p x) ids' id r) is in
          let d : cond (has_id board ids id q) (beside p q) 0 ≡ 0 =
          ap (λ (b : Bool). cond b (beside p q) 0) was in
          omega (arith, a, b, c, d)
      | inr another ↦
          let own = share (set board p x) ids' id p in
          let cell : at (set board p x) q ≡ at board q = get_or-set_other board p q x Edge another in
          let still : has_id (set board p x) ids' id q ≡ has_id board ids id q =
          ap (λ (c : Cell). is_stone c && (id_of ids' q == id)) cell
          ∙ ap (λ (l : ℕ). is_stone (at board q) && (l == id)) (same q another) in
          let a = at_other (has_id board ids id q) (has_id (set board p x) ids' id q) q still in
          let b : cond (q == p) own 0 ≡ 0 = ap (λ (b : Bool). cond b own 0) (ne_eqb q p another) in
          omega (arith, a, b)
    ]
