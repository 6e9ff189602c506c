-- The stones without a liberty, and what removing them leaves.
use Rattle.std.proofs.Common.{◌≡◌, ℕ, zero, suc, ◌+◌, ◌<◌, ◌≤◌, List, [], ◌∷◌, ◌++◌, length, refl, sym, ◌∙◌, ap, arith}
use Rattle.std.proofs.Common.{inl, inr, Bool, true, false, cond, get_or-set_other, get_or-set_same, add-one}
use Rattle.std.specs.Prelude.{◌≢◌, All, count_by, filter, map}
use Rattle.std.specs.List.{range_with_len}
use Rattle.std.proofs.Math.ListN.{set}
use Rattle.std.proofs.lemmas.List.{map-id, get_or_past}
use Rattle.std.proofs.lemmas.List.Elements.{All-filter, All-from_get_or}
use Rattle.std.proofs.lemmas.List.FromFn.{sum_by-map-range_with_len_more, get_or-map-range_with_len}
use Rattle.std.proofs.lemmas.List.FromFn.{length-map-range_with_len, filter_of_map_range_with_len_more}
use Rattle.std.proofs.lemmas.List.FromFn.{length-range_with_len, get_or-range_with_len}
use Rattle.std.proofs.lemmas.List.Sums.{count_by-le-length}
use Rattle.go_base.specs.Colour.{other}
use Rattle.go_base.specs.declared.colours.Colour.{Colour}
use Rattle.go_board.specs.Board.{at, stone}
use Rattle.go_board.specs.private.Frame.{IsFramed, HasSize, SameEdge}
use Rattle.go_base.specs.Decide.{holds}
use Rattle.go_board.specs.decisions.Chain.{captured?}
use Rattle.go_board.specs.Play.{is_captured, left_at, without_captured, captured_count, play}
use Rattle.go_board.specs.private.TakenStack.{captured_places, taken_at}
use Rattle.go_board.specs.declared.board.Cell.{Cell}
use Rattle.go_board.specs.declared.board.Cell.TheVariants.{Edge, Empty}
use Rattle.go_board.proofs.boards.Cells.{stone-point, stone-differs}
use Rattle.go_board.specs.declared.taken_stack.TakenStone.{TakenStone}
use Rattle.go_board.proofs.General.{earlier_or_last}
use Rattle.std.proofs.lemmas.Bool.{cases_eq, cases_lt, false≢true}

-- a decision is for a fact that holds, and not for one that doesn't
pub holds-yes : {A : Type 0} (d : Dec A) → A → holds d ≡ true
holds-yes (yes a) h = refl
holds-yes (no k) h = absurd (k h)

pub holds-no : {A : Type 0} (d : Dec A) → ¬ A → holds d ≡ false
holds-no (yes a) h = absurd (h a)
holds-no (no k) h = refl

pub holds-true : {A : Type 0} (d : Dec A) → holds d ≡ true → A
holds-true (yes a) e = a
holds-true (no k) e = absurd (false≢true e)

-- the count among the numbers below n, and one number more
pub count_by-more : (p : ℕ → Bool) (n : ℕ)
    → count_by p (range_with_len 0 (n + 1)) ≡ count_by p (range_with_len 0 n) + cond (p n) 1 0
count_by-more p n =
    simp map-id at (sum_by-map-range_with_len_more (λ (x : ℕ). cond (p x) 1 0) (λ (x : ℕ). x) 0 n n (omega arith))

-- the captured places below n, and one place more
pub places-more : (p : ℕ → Bool) (n : ℕ)
    → filter p (range_with_len 0 (n + 1)) ≡ filter p (range_with_len 0 n) ++ cond (p n) (n ∷ []) []
places-more p n = simp map-id at (filter_of_map_range_with_len_more p (λ (x : ℕ). x) 0 n n (omega arith))

pub map-push : (number : ℕ) (xs : List ℕ) (x : ℕ)
    → taken_at number (xs ++ x ∷ []) ≡ taken_at number xs ++ record { place = x; number = number } ∷ []
map-push number [] x = refl
map-push number (y ∷ ys) x = ap (λ (ts : List TakenStone). record { place = y; number = number } ∷ ts)
    (map-push number ys x)

-- a place that counts is one of the count
pub counted-one : (p : ℕ → Bool) (n m : ℕ) → n < m → p n ≡ true
    → count_by p (range_with_len 0 n) + 1 ≤ count_by p (range_with_len 0 m)
counted-one p n zero h e = absurd (omega arith)
counted-one p n (suc m) h e =
    let more : count_by p (range_with_len 0 (suc m)) ≡ count_by p (range_with_len 0 m) + cond (p m) 1 0 =
    rw add-one at (count_by-more p m) in
    elim (earlier_or_last n m (omega arith)) [
      | inl earlier ↦ let rest = counted-one p n m earlier e in omega (arith, more, rest)
      | inr last ↦
          let one = one_for (p m) (ap p (sym last) ∙ e) in
          let same : count_by p (range_with_len 0 n) ≡ count_by p (range_with_len 0 m) =
          ap (λ (k : ℕ). count_by p (range_with_len 0 k)) last in
          omega (arith, more, one, same)
    ]
  where
    one_for : (b : Bool) → b ≡ true → cond {A = ℕ} b 1 0 ≡ 1
    one_for b e = ap (λ (b : Bool). cond b 1 0) e

-- the captured places are places of the board, and as many as there are at most
pub captured-below : (board : List Cell) (c : Colour) → All (λ p. p < length board) (captured_places board c)
captured-below board c =
    All-filter (is_captured board c) (λ p. p < length board) (range_with_len 0 (length board))
    (All-from_get_or (λ p. p < length board) (range_with_len 0 (length board)) 0 (λ i h.
    let long = length-range_with_len 0 (length board) in
    let below : i < length board = omega (arith, h, long) in
    let is = get_or-range_with_len 0 (length board) i 0 below in
    omega (arith, is, below)))

pub captured-few : (board : List Cell) (c : Colour) → captured_count board c ≤ length board
unfolding captured_count
captured-few board c =
    let few = count_by-le-length (is_captured board c) (range_with_len 0 (length board)) in
    let long = length-range_with_len 0 (length board) in
    omega (arith, few, long)

-- ---- what removing stones leaves

-- what isn't edge is on the list
pub in_list : (board : List Cell) (p : ℕ) → at board p ≢ Edge → p < length board
in_list board p point =
    elim (cases_lt p (length board)) [ inl below ↦ below | inr past ↦ absurd (point (get_or_past board p Edge past)) ]

-- an edge stays an edge
pub left_at-edge : (board : List Cell) (c : Colour) (p : ℕ) → at board p ≡ Edge → left_at board c p ≡ Edge
left_at-edge board c p e =
    let kept : is_captured board c p ≡ false = holds-no (captured? board c p) (λ k. stone-point c (sym k.0 ∙ e)) in
    ap (λ (b : Bool). cond b Empty (at board p)) kept ∙ e

-- and nothing else becomes one
edge-from_left_at : (board : List Cell) (c : Colour) (p : ℕ) → left_at board c p ≡ Edge → at board p ≡ Edge
edge-from_left_at board c p = by_case (is_captured board c p)
  where
    by_case : (b : Bool) → cond b Empty (at board p) ≡ Edge → at board p ≡ Edge
    by_case true e = cc
    by_case false e = e

pub at-without_captured : (board : List Cell) (c : Colour) (p : ℕ) → at (without_captured board c) p ≡ left_at board c p
unfolding without_captured
at-without_captured board c p = elim (cases_lt p (length board)) [
  | inl below ↦ get_or-map-range_with_len (left_at board c) 0 (length board) p p Edge below (omega arith)
  | inr past ↦
      let long = length-map-range_with_len (left_at board c) 0 (length board) in
      get_or_past (map (left_at board c) (range_with_len 0 (length board))) p Edge (omega (arith, long, past))
      ∙ sym (left_at-edge board c p (get_or_past board p Edge past))
]

pub SameEdge-trans : (a b c : List Cell) → SameEdge a b → SameEdge b c → SameEdge a c
SameEdge-trans a b c x y = record {
  kept = λ p e. y.kept p (x.kept p e);
  back = λ p e. x.back p (y.back p e);
}

SameEdge-without_captured : (board : List Cell) (c : Colour) → SameEdge board (without_captured board c)
SameEdge-without_captured board c = record {
  kept = λ p e. at-without_captured board c p ∙ left_at-edge board c p e;
  back = λ p e. edge-from_left_at board c p (sym (at-without_captured board c p) ∙ e);
}

pub SameEdge-set : (board : List Cell) (p : ℕ) (x : Cell) → at board p ≢ Edge → x ≢ Edge
    → SameEdge board (set board p x)
SameEdge-set board p x point filled = record {
  kept = λ q e. elim (cases_eq q p) [
    | inl same ↦ absurd (point (ap (λ r. at board r) (sym same) ∙ e))
    | inr another ↦ get_or-set_other board p q x Edge another ∙ e
  ];
  back = λ q e. elim (cases_eq q p) [
    | inl same ↦ absurd (filled
        (sym (get_or-set_same board p x Edge (in_list board p point)) ∙ ap (λ r. at (set board p x) r) (sym same) ∙ e))
    | inr another ↦ sym (get_or-set_other board p q x Edge another) ∙ e
  ];
}

pub IsFramed-without_captured : (board : List Cell) (c : Colour) → IsFramed board → IsFramed (without_captured board c)
unfolding without_captured
IsFramed-without_captured board c framed = record {
  length_is = length-map-range_with_len (left_at board c) 0 (length board) ∙ framed.length_is;
  inside = λ p held. framed.inside p (λ e. held ((SameEdge-without_captured board c).kept p e));
}

-- a play changes what the points hold, and no edge
pub SameEdge-play : (board : List Cell) (c : Colour) (p : ℕ) → at board p ≢ Edge → SameEdge board (play board c p)
unfolding play
SameEdge-play board c p point =
    SameEdge-trans board (set board p (stone c)) (without_captured (set board p (stone c)) (other c))
    (SameEdge-set board p (stone c) point (stone-point c)) (SameEdge-without_captured (set board p (stone c)) (other c))

pub HasSize-same_edge : (size : ℕ) (old new : List Cell) → SameEdge old new → HasSize size old → HasSize size new
HasSize-same_edge size old new same has p = (
  (λ held. (has p).0 (λ e. held (same.kept p e))),
  (λ on e. (has p).1 on (same.back p e)),
)

-- the new stone stays
pub at-play : (board : List Cell) (c : Colour) (p : ℕ) → at board p ≢ Edge → at (play board c p) p ≡ stone c
unfolding play
at-play board c p point =
    let here : at (set board p (stone c)) p ≡ stone c =
    get_or-set_same board p (stone c) Edge (in_list board p point) in
    let kept : is_captured (set board p (stone c)) (other c) p ≡ false =
    holds-no (captured? (set board p (stone c)) (other c) p) (λ k. stone-differs c (sym here ∙ k.0)) in
    at-without_captured (set board p (stone c)) (other c) p
    ∙ ap (λ (b : Bool). cond b Empty (at (set board p (stone c)) p)) kept ∙ here
