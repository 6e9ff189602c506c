-- The empty points that count for a colour, row by row.
use Rattle.std.proofs.Common.{◌≡◌, ℕ, zero, suc, ◌+◌, ◌*◌, ◌<◌, ◌≤◌, List, refl, sym, ◌∙◌, ap, arith, inl, inr}
use Rattle.std.proofs.Common.{Bool, true, false, cond}
use Rattle.std.specs.Prelude.{◌↔◌, ◌&&◌, not, if◌then◌else◌, IsTrue, Option, Some, None, count_by}
use Rattle.std.specs.List.{range_with_len}
use Rattle.std.specs.Int.{bit_at}
use Rattle.std.proofs.lemmas.Bool.{cases_eq, false≢true}
use Rattle.go_base.specs.Colour.{other}
use Rattle.go_base.specs.Decide.{both?, holds}
use Rattle.go_base.specs.declared.colours.Colour.{Colour}
use Rattle.go_base.specs.declared.colours.Colour.TheVariants as colour
use Rattle.go_board.specs.Area.{is_counted, area}
use Rattle.go_board.specs.Board.{at, stone}
use Rattle.go_board.specs.Chain.{Touches}
use Rattle.go_board.specs.Counting.{CountsFor}
use Rattle.go_board.specs.declared.areas.Beside.{Beside}
use Rattle.go_board.specs.declared.areas.OpenArea.{OpenArea}
use Rattle.go_board.specs.declared.board.Cell.{Cell}
use Rattle.go_board.specs.declared.board.Cell.TheVariants.{Edge, Empty, Black, White}
use Rattle.go_board.specs.decisions.Board.{cell?}
use Rattle.go_board.specs.decisions.Counting.{counts_for?}
use Rattle.go_board.specs.private.Areas.{one_of, stones_on, open_one, open_below, AreOpenBelow, AreKnown, IsBeside}
use Rattle.go_board.specs.private.Columns.{Has, IsFirst, AreEmptyIn}
use Rattle.go_board.proofs.General.{by_dec}
use Rattle.go_board.proofs.StoneWeights.{pick, pick-yes, pick-no}
use Rattle.go_board.proofs.Sums.{total, total-zero, total-suc, total-same, total-none, total-changed, total-at_most}
use Rattle.go_board.proofs.boards.Cells.{stone-filled}
use Rattle.go_board.proofs.captures.CapturedStones.{holds-yes, holds-no, count_by-more}

-- ---- one point

open-yes : (board : List Cell) (c : Colour) (p : ℕ) → at board p ≡ Empty → CountsFor board c p → open_one board c p ≡ 1
unfolding open_one
open-yes board c p empty counts =
    ap (λ (b : Bool). cond b 1 0) (holds-yes (both? (cell? (at board p) Empty) (counts_for? board c p)) (empty, counts))

open-no : (board : List Cell) (c : Colour) (p : ℕ) → ¬ ((at board p ≡ Empty) × CountsFor board c p)
    → open_one board c p ≡ 0
unfolding open_one
open-no board c p out =
    ap (λ (b : Bool). cond b 1 0) (holds-no (both? (cell? (at board p) Empty) (counts_for? board c p)) out)

-- an empty point counts where the stones beside its region are of one colour
pub open-alone : (board : List Cell) (c : Colour) (p : ℕ) (a b : Bool) → at board p ≡ Empty
    → IsTrue a ↔ Touches board p (stone c) → IsTrue b ↔ Touches board p (stone (other c))
    → (if a && not b then 1 else 0) ≡ open_one board c p
open-alone board c p true false empty mine theirs =
    sym (open-yes board c p empty (inr (empty, (mine.0 refl, (λ t. false≢true (theirs.1 t))))))
open-alone board c p true true empty mine theirs = sym (open-no board c p (λ h. elim h.1 [
  | inl own ↦ stone-filled c (sym own ∙ h.0)
  | inr only ↦ only.1.1 (theirs.0 refl)
]))
open-alone board c p false b empty mine theirs = sym (open-no board c p (λ h. elim h.1 [
  | inl own ↦ stone-filled c (sym own ∙ h.0)
  | inr only ↦ false≢true (mine.1 only.1.0)
]))

open-few : (board : List Cell) (c : Colour) (p : ℕ) → open_one board c p ≤ 1
unfolding open_one
open-few board c p = few (holds (both? (cell? (at board p) Empty) (counts_for? board c p)))
  where
    few : (b : Bool) → cond b 1 0 ≤ 1
    few true = omega arith
    few false = omega arith

-- ---- the points of a row

below-total : (board : List Cell) (c : Colour) (n : ℕ) → open_below board c n ≡ total (open_one board c) n
unfolding open_below total
below-total board c n = refl

pub below-few : (board : List Cell) (c : Colour) (n : ℕ) → open_below board c n ≤ n
below-few board c n =
    let most = total-at_most (open_one board c) 1 n (open-few board c) in
    omega (arith, most, below-total board c n)

pub below-none : (board : List Cell) (c : Colour) → 0 ≡ open_below board c 0
below-none board c = sym (below-total board c 0 ∙ total-zero (open_one board c))

-- those of the columns of a row that are left
unfoldable pub left_in : List Cell → Colour → ℕ → ℕ → ℕ
left_in board c row left =
    total (λ k. pick (cases_eq (bit_at left k) 1) (open_one board c (26 * row + k)) 0) 26

left-row : (board : List Cell) (c : Colour) (row left : ℕ) → AreEmptyIn board row left
    → left_in board c row left ≡ total (λ k. open_one board c (26 * row + k)) 26
unfolding left_in
left-row board c row left are =
    total-same (λ k. pick (cases_eq (bit_at left k) 1) (open_one board c (26 * row + k)) 0)
    (λ k. open_one board c (26 * row + k)) 26
    (λ k below. elim (cases_eq (bit_at left k) 1) [
      | inl has ↦ pick-yes (cases_eq (bit_at left k) 1) (open_one board c (26 * row + k)) 0 has
      | inr without ↦
          pick-no (cases_eq (bit_at left k) 1) (open_one board c (26 * row + k)) 0 without
          ∙ sym (open-no board c (26 * row + k) (λ h. without ((are k).1 (below, h.0))))
    ])

left-first : (board : List Cell) (c : Colour) (row left new first : ℕ) → IsFirst left new (Some first)
    → left_in board c row left ≡ left_in board c row new + open_one board c (26 * row + first)
unfolding left_in
left-first board c row left new first h =
    let f : ℕ → ℕ = λ k. pick (cases_eq (bit_at left k) 1) (open_one board c (26 * row + k)) 0 in
    let g : ℕ → ℕ = λ k. pick (cases_eq (bit_at new k) 1) (open_one board c (26 * row + k)) 0 in
    let is = h.4 in
    let changed = total-changed f g first 26 h.1
    (λ k away. elim (cases_eq (bit_at left k) 1) [
      | inl has ↦
          pick-yes (cases_eq (bit_at left k) 1) (open_one board c (26 * row + k)) 0 has
          ∙ sym (pick-yes (cases_eq (bit_at new k) 1) (open_one board c (26 * row + k)) 0 ((is k).1 (has, away)))
      | inr without ↦
          pick-no (cases_eq (bit_at left k) 1) (open_one board c (26 * row + k)) 0 without
          ∙ sym (pick-no (cases_eq (bit_at new k) 1) (open_one board c (26 * row + k)) 0
          (λ has. without ((is k).0 has).0))
    ]) in
    let had = pick-yes (cases_eq (bit_at left first) 1) (open_one board c (26 * row + first)) 0 h.0 in
    let gone = pick-no (cases_eq (bit_at new first) 1) (open_one board c (26 * row + first)) 0
    (λ has. ((is first).0 has).1 refl) in
    omega (arith, changed, had, gone)

left-none : (board : List Cell) (c : Colour) (row left new : ℕ) → IsFirst left new None → left_in board c row left ≡ 0
unfolding left_in
left-none board c row left new h =
    total-none (λ k. pick (cases_eq (bit_at left k) 1) (open_one board c (26 * row + k)) 0) 26
    (λ k below. pick-no (cases_eq (bit_at left k) 1) (open_one board c (26 * row + k)) 0 (h.1 k))

total-split : (f : ℕ → ℕ) (m n : ℕ) → total f m + total (λ k. f (m + k)) n ≡ total f (m + n)
total-split f m zero =
    let same : m + 0 ≡ m = omega arith in
    let all = ap (total f) same in
    omega (arith, all, total-zero (λ k. f (m + k)))
total-split f m (suc n) =
    let rest = total-split f m n in
    let same : m + suc n ≡ suc (m + n) = omega arith in
    let all = ap (total f) same in
    omega (arith, rest, all, total-suc (λ k. f (m + k)) n, total-suc f (m + n))

row-below : (board : List Cell) (c : Colour) (row left : ℕ) → AreEmptyIn board row left
    → open_below board c (26 * row) + left_in board c row left ≡ open_below board c (26 * (row + 1))
row-below board c row left are =
    let next : 26 * row + 26 ≡ 26 * (row + 1) = omega arith in
    let split = total-split (open_one board c) (26 * row) 26 in
    let all = ap (total (open_one board c)) next in
    omega (
      arith,
      split,
      all,
      left-row board c row left are,
      below-total board c (26 * row),
      below-total board c (26 * (row + 1)),
    )

-- what is counted of a row, where some columns are left
pub record IsRowCounted (board : List Cell) (row left : ℕ) (area : OpenArea) (known : List (Option Beside)) : Type 0
  where
    pub black : area.black + left_in board colour.Black row left ≡ open_below board colour.Black (26 * (row + 1))
    pub white : area.white + left_in board colour.White row left ≡ open_below board colour.White (26 * (row + 1))
    pub left_is : (k : ℕ) → Has left k → (k < 26) × (at board (26 * row + k) ≡ Empty)
    pub known_is : AreKnown board known

pub row-begun : (board : List Cell) (row left : ℕ) (area : OpenArea) (known : List (Option Beside))
    → AreOpenBelow board (26 * row) area → AreEmptyIn board row left → AreKnown board known
    → IsRowCounted board row left area known
row-begun board row left area known so_far are right =
    let b = so_far.black in
    let w = so_far.white in
    let black_row = row-below board colour.Black row left are in
    let white_row = row-below board colour.White row left are in
    record {
      black = omega (arith, b, black_row);
      white = omega (arith, w, white_row);
      left_is = λ k has. (are k).0 has;
      known_is = right;
    }

pub row-more : (board : List Cell) (row left new first black white : ℕ) (area : OpenArea)
    (old known : List (Option Beside)) (beside : Beside) → IsFirst left new (Some first)
    → IsBeside board (26 * row + first) beside
    → black ≡ (if beside.black && not beside.white then 1 else 0)
    → white ≡ (if beside.white && not beside.black then 1 else 0) → AreKnown board known
    → IsRowCounted board row left area old
    → IsRowCounted board row new (record { black = area.black + black; white = area.white + white }) known
row-more board row left new first black white area old known beside h is black_is white_is right counted =
    let empty = (counted.left_is first h.0).1 in
    let one = open-alone board colour.Black (26 * row + first) beside.black beside.white empty is.black is.white in
    let another = open-alone board colour.White (26 * row + first) beside.white beside.black empty is.white is.black in
    let b = counted.black in
    let w = counted.white in
    let black_left = left-first board colour.Black row left new first h in
    let white_left = left-first board colour.White row left new first h in
    record {
      black = omega (arith, b, black_left, one, black_is);
      white = omega (arith, w, white_left, another, white_is);
      left_is = λ k has. counted.left_is k ((h.4 k).0 has).0;
      known_is = right;
    }

pub row-done : (board : List Cell) (row left new : ℕ) (area : OpenArea) (known : List (Option Beside))
    → IsFirst left new None → IsRowCounted board row left area known → AreOpenBelow board (26 * (row + 1)) area
row-done board row left new area known h counted =
    let b = counted.black in
    let w = counted.white in
    let black_left = left-none board colour.Black row left new h in
    let white_left = left-none board colour.White row left new h in
    record { black = omega (arith, b, black_left); white = omega (arith, w, white_left) }

-- ---- the whole area

own-one : (c : Colour) → one_of c (stone c) ≡ 1
own-one colour.Black = refl
own-one colour.White = refl

empty-one : (c : Colour) → one_of c Empty ≡ 0
empty-one colour.Black = refl
empty-one colour.White = refl

other-one : (c : Colour) (x : Cell) → ¬ (x ≡ stone c) → one_of c x ≡ 0
other-one colour.Black Black away = absurd (away refl)
other-one colour.Black White away = refl
other-one colour.Black Empty away = refl
other-one colour.Black Edge away = refl
other-one colour.White Black away = refl
other-one colour.White White away = absurd (away refl)
other-one colour.White Empty away = refl
other-one colour.White Edge away = refl

each-area : (board : List Cell) (c : Colour) (p : ℕ)
    → cond (is_counted board c p) 1 0 ≡ one_of c (at board p) + open_one board c p
each-area board c p =
    by_dec (cell? (at board p) Empty)
    (λ empty.
    let none = ap (one_of c) empty ∙ empty-one c in
    by_dec (counts_for? board c p)
    (λ counts.
    let yes = ap {B = ℕ} (λ (b : Bool). cond b 1 0) (holds-yes (counts_for? board c p) counts) in
    let one = open-yes board c p empty counts in
    omega (arith, none, yes, one))
    (λ out.
    let nothing = ap {B = ℕ} (λ (b : Bool). cond b 1 0) (holds-no (counts_for? board c p) out) in
    let zero_one = open-no board c p (λ h. out h.1) in
    omega (arith, none, nothing, zero_one)))
    (λ filled.
    let zero_one = open-no board c p (λ h. filled h.0) in
    by_dec (cell? (at board p) (stone c))
    (λ own.
    let yes = ap {B = ℕ} (λ (b : Bool). cond b 1 0) (holds-yes (counts_for? board c p) (inl own)) in
    let one = ap (one_of c) own ∙ own-one c in
    omega (arith, yes, one, zero_one))
    (λ away.
    let nothing = ap {B = ℕ} (λ (b : Bool). cond b 1 0) (holds-no (counts_for? board c p) (λ counts. elim counts [
      | inl own ↦ away own
      | inr region ↦ filled region.0
    ])) in
    let none = other-one c (at board p) away in
    omega (arith, nothing, none, zero_one)))

area-below : (board : List Cell) (c : Colour) (n : ℕ)
    → count_by (is_counted board c) (range_with_len 0 n)
    ≡ total (λ p. one_of c (at board p)) n + total (open_one board c) n
area-below board c zero = omega (arith, total-zero (λ p. one_of c (at board p)), total-zero (open_one board c))
area-below board c (suc n) =
    let rest = area-below board c n in
    let next : n + 1 ≡ suc n = omega arith in
    let more = ap (λ (k : ℕ). count_by (is_counted board c) (range_with_len 0 k)) (sym next)
    ∙ count_by-more (is_counted board c) n in
    omega (
      arith,
      rest,
      more,
      each-area board c n,
      total-suc (λ p. one_of c (at board p)) n,
      total-suc (open_one board c) n,
    )

pub stones-total : (board : List Cell) (c : Colour) → stones_on board c ≡ total (λ p. one_of c (at board p)) 702
unfolding stones_on total
stones-total board c = refl

area-at : (board : List Cell) (c : Colour) (n : ℕ) → n ≡ 702
    → count_by (is_counted board c) (range_with_len 0 n) ≡ area board c
unfolding area
area-at board c n e = ap (λ k. count_by (is_counted board c) (range_with_len 0 k)) e

area-all : (board : List Cell) (c : Colour) (n : ℕ) → n ≡ 702
    → stones_on board c + open_below board c 702 ≡ area board c
area-all board c n e =
    let stones = stones-total board c ∙ ap (total (λ p. one_of c (at board p))) (sym e) in
    let opened = below-total board c 702 ∙ ap (total (open_one board c)) (sym e) in
    omega (arith, area-below board c n, stones, opened, area-at board c n e)

-- an area is the colour's stones and the empty points that count for it
pub area-sum : (board : List Cell) (c : Colour) → stones_on board c + open_below board c 702 ≡ area board c
area-sum board c = area-all board c 702 refl

pub area-from : (board : List Cell) (c : Colour) (stones open_points : ℕ) → stones ≡ stones_on board c
    → open_points ≡ open_below board c 702 → stones + open_points ≡ area board c
area-from board c stones open_points stones_is points_is =
    ap (λ (n : ℕ). n + open_points) stones_is ∙ ap (λ (n : ℕ). stones_on board c + n) points_is ∙ area-sum board c
