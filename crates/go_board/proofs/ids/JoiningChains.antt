-- Chains become one: their ids and their pseudo-liberties.
use Rattle.std.proofs.Common.{◌≡◌, ℕ, ◌+◌, ◌-◌, ◌<◌, ◌≤◌, List, [], ◌∷◌, length, refl, sym, ◌∙◌, ap, subst, arith, inl}
use Rattle.std.proofs.Common.{inr, get_or-set_other, get_or-set_same}
use Rattle.std.specs.Prelude.{◌⊎◌, ◌≢◌, map}
use Rattle.std.proofs.lemmas.List.{get_or-map, length-map}
use Rattle.std.proofs.Math.ListN.{set, length-set}
use Rattle.go_base.specs.Point.{Neighbours, IsOn}
use Rattle.go_base.specs.Size.{most_size}
use Rattle.go_base.specs.declared.colours.Colour.{Colour}
use Rattle.go_board.specs.Board.{at, stone, IsStone}
use Rattle.go_board.specs.private.Frame.{IsFramed}
use Rattle.go_board.specs.decisions.Board.{cell?}
use Rattle.go_board.specs.private.ChainId.{id_of, ArePseudoLiberties, AreChains, count_at}
use Rattle.go_board.specs.private.Steps.{rename, rename_three, IsMoved, IsIdOr}
use Rattle.go_board.specs.declared.board.Cell.{Cell}
use Rattle.go_board.specs.declared.board.Cell.TheVariants.{Empty}
use Rattle.go_board.proofs.boards.Cells.{IsFramed-set, empty-point}
use Rattle.go_board.proofs.captures.CapturedStones.{in_list}
use Rattle.go_board.proofs.ids.Paths.{IsStone-point, IsStone-filled, IsOwn, IsJoining, AreLocalIds-joining}
use Rattle.go_board.proofs.ids.Paths.{AreLocalIds-of, AreChainIds-steps}
use Rattle.go_board.proofs.liberties.MergingIds.{rename-same, rename-other, ArePseudoLiberties-rename}
use Rattle.go_board.proofs.liberties.MergingIds.{pseudo_liberties-few}
use Rattle.std.proofs.lemmas.Bool.{cases_eq}
use Rattle.go_board.proofs.boards.Neighbours.{IsOn-inside, all_beside, left_of, under_of}
use Rattle.go_board.proofs.General.{by_dec}

-- ---- the counts

map-same : (f : ℕ → ℕ) (xs : List ℕ) → ((x : ℕ) → f x ≡ x) → map f xs ≡ xs
map-same f [] h = refl
map-same f (x ∷ xs) h = ap (λ (y : ℕ). y ∷ map f xs) (h x) ∙ ap (λ (ys : List ℕ). x ∷ ys) (map-same f xs h)

rename-one : (to from l : ℕ) → to ≡ from → rename to from l ≡ l
rename-one to from l e =
    elim (cases_eq l from) [ inl is ↦ rename-same to from l is ∙ e ∙ sym is | inr o ↦ rename-other to from l o ]

ArePseudoLiberties-moved : (board : List Cell) (ids counts new : List ℕ) (to from : ℕ) → to < 702 → from < 702
    → length ids ≡ 702 → IsMoved counts new to from → ArePseudoLiberties board ids counts
    → ArePseudoLiberties board (map (rename to from) ids) new
ArePseudoLiberties-moved board ids counts new to from t f long m a = elim (cases_eq to from) [
  | inl e ↦ subst (λ (ls : List ℕ). ArePseudoLiberties board ls new)
      (sym (map-same (rename to from) ids (λ l. rename-one to from l e)))
      (subst (ArePseudoLiberties board ids) (sym (m.one e)) a)
  | inr o ↦ ArePseudoLiberties-rename board ids counts new to from t f o long (m.two o) a
]

map-three : (to a b c : ℕ) (xs : List ℕ)
    → map (rename to c) (map (rename to b) (map (rename to a) xs)) ≡ map (rename_three to a b c) xs
map-three to a b c [] = refl
map-three to a b c (x ∷ xs) = ap (λ (ys : List ℕ). rename_three to a b c x ∷ ys) (map-three to a b c xs)

pub ArePseudoLiberties-first : (board : List Cell) (ids c0 c1 : List ℕ) (to a : ℕ) → to < 702 → a < 702
    → length ids ≡ 702
    → ArePseudoLiberties board ids c0 → IsMoved c0 c1 to a
    → ArePseudoLiberties board (map (rename to a) ids) c1
ArePseudoLiberties-first board ids c0 c1 to a t la long counts m = ArePseudoLiberties-moved board ids c0 c1 to a t la
    long m counts

pub ArePseudoLiberties-second : (board : List Cell) (ids c0 c1 c2 : List ℕ) (to a b : ℕ) → to < 702 → a < 702 → b < 702
    → length ids ≡ 702 → ArePseudoLiberties board ids c0 → IsMoved c0 c1 to a
    → IsMoved c1 c2 to b → ArePseudoLiberties board (map (rename to b) (map (rename to a) ids)) c2
ArePseudoLiberties-second board ids c0 c1 c2 to a b t la lb long counts m n =
    ArePseudoLiberties-moved board (map (rename to a) ids) c1 c2 to b t lb (length-map ids (rename to a) ∙ long) n
    (ArePseudoLiberties-first board ids c0 c1 to a t la long counts m)

pub ArePseudoLiberties-rename_three : (board : List Cell) (ids c0 c1 c2 c3 : List ℕ) (to a b c : ℕ) → to < 702 → a < 702
    → b < 702 → c < 702 → length ids ≡ 702 → ArePseudoLiberties board ids c0
    → IsMoved c0 c1 to a → IsMoved c1 c2 to b → IsMoved c2 c3 to c
    → ArePseudoLiberties board (map (rename_three to a b c) ids) c3
ArePseudoLiberties-rename_three board ids c0 c1 c2 c3 to a b c t la lb lc long counts m n o =
    subst (λ (ls : List ℕ). ArePseudoLiberties board ls c3) (map-three to a b c ids)
    (ArePseudoLiberties-moved board (map (rename to b) (map (rename to a) ids)) c2 c3 to c t lc
    (length-map (map (rename to a) ids) (rename to b) ∙ length-map ids (rename to a) ∙ long) o
    (ArePseudoLiberties-second board ids c0 c1 c2 to a b t la lb long counts m n))

-- there is room for two counts in one
pub room-for_two : (board : List Cell) (ids counts : List ℕ) (to from : ℕ) → to < 702 → from < 702
    → ArePseudoLiberties board ids counts → count_at counts to + count_at counts from ≤ 65535
room-for_two board ids counts to from t f a =
    let x = a.each to t in
    let y = a.each from f in
    omega (arith, x, y, pseudo_liberties-few board ids to, pseudo_liberties-few board ids from)

-- ---- the ids

rename-to : (to x : ℕ) → rename to x to ≡ to
rename-to to x = elim (cases_eq to x) [ inl e ↦ rename-same to x to e | inr o ↦ rename-other to x to o ]

pub rename_three-to : (to a b c : ℕ) → rename_three to a b c to ≡ to
rename_three-to to a b c =
    ap (λ (l : ℕ). rename to c (rename to b l)) (rename-to to a) ∙ ap (rename to c) (rename-to to b)
    ∙ rename-to to c

pub rename_three-a : (to a b c l : ℕ) → l ≡ a → rename_three to a b c l ≡ to
rename_three-a to a b c l e =
    ap (λ (k : ℕ). rename to c (rename to b k)) (rename-same to a l e) ∙ ap (rename to c) (rename-to to b)
    ∙ rename-to to c

pub rename_three-b : (to a b c l : ℕ) → l ≡ b → rename_three to a b c l ≡ to
rename_three-b to a b c l e = elim (cases_eq l a) [
  | inl is ↦ rename_three-a to a b c l is
  | inr x ↦ ap (λ (k : ℕ). rename to c (rename to b k)) (rename-other to a l x)
      ∙ ap (rename to c) (rename-same to b l e) ∙ rename-to to c
]

pub rename_three-third : (to a b c l : ℕ) → l ≡ c → rename_three to a b c l ≡ to
rename_three-third to a b c l e = elim (cases_eq l a) [
  | inl is ↦ rename_three-a to a b c l is
  | inr x ↦ elim (cases_eq l b) [
    | inl is ↦ rename_three-b to a b c l is
    | inr y ↦ ap (λ (k : ℕ). rename to c (rename to b k)) (rename-other to a l x)
        ∙ ap (rename to c) (rename-other to b l y) ∙ rename-same to c l e
  ]
]

-- an id becomes another where it is one of the three, and else stays
pub data IsOfThree (to a b c l : ℕ) : Type 0 where
  first : l ≡ a → rename_three to a b c l ≡ to → IsOfThree to a b c l
  second : l ≡ b → rename_three to a b c l ≡ to → IsOfThree to a b c l
  third : l ≡ c → rename_three to a b c l ≡ to → IsOfThree to a b c l
  none : rename_three to a b c l ≡ l → IsOfThree to a b c l

pub of_three : (to a b c l : ℕ) → IsOfThree to a b c l
of_three to a b c l = elim (cases_eq l a) [
  | inl e ↦ first e (rename_three-a to a b c l e)
  | inr x ↦ elim (cases_eq l b) [
    | inl e ↦
        second e (ap (λ (k : ℕ). rename to c (rename to b k)) (rename-other to a l x)
        ∙ ap (rename to c) (rename-same to b l e) ∙ rename-to to c)
    | inr y ↦
        let two =
        ap (λ (k : ℕ). rename to c (rename to b k)) (rename-other to a l x)
        ∙ ap (rename to c) (rename-other to b l y) in
        elim (cases_eq l c)
        [ inl e ↦ third e (two ∙ rename-same to c l e) | inr z ↦ none (two ∙ rename-other to c l z) ]
  ]
]

-- Each of the ids is that of a stone of the colour beside the point, or the new stone's own, which is one of theirs
-- or the point.
pub record AreOwn (board : List Cell) (ids : List ℕ) (c : Colour) (p id x y z : ℕ) : Type 0 where
  pub from : (id ≡ p) ⊎ IsOwn board ids c p id
  pub right : at board (p + 1) ≡ stone c → id ≡ id_of ids (p + 1)
  pub left : IsIdOr board ids (stone c) (p - 1) id x
  pub above : IsIdOr board ids (stone c) (p + 26) id y
  pub under : IsIdOr board ids (stone c) (p - 26) id z

own-from : (board : List Cell) (ids : List ℕ) (c : Colour) (p q id other : ℕ) → Neighbours p q
    → IsIdOr board ids (stone c) q other id
    → (id ≡ other) ⊎ IsOwn board ids c p id
own-from board ids c p q id other beside own = by_dec (cell? (at board q) (stone c))
    (λ h. inr (record { place = q; neighbours = beside; holds = h; id_is = sym (own.there h) }))
    (λ k. inl (own.absent k))

-- the code's choice of ids
pub AreOwn-code : (board : List Cell) (ids : List ℕ) (c : Colour) (s : Cell) (p under above left id x y z : ℕ)
    → s ≡ stone c → IsOn most_size p
    → IsIdOr board ids s (p - 26) p under → IsIdOr board ids s (p + 26) under above
    → IsIdOr board ids s (p - 1) above left
    → IsIdOr board ids s (p + 1) left id → IsIdOr board ids s (p - 1) id x
    → IsIdOr board ids s (p + 26) id y
    → IsIdOr board ids s (p - 26) id z → AreOwn board ids c p id x y z
AreOwn-code board ids c s p under above left id x y z is on a b d e f g h = record {
  from = elim (own-from board ids c p (p + 1) id left (inl refl) (so e)) [
    | inr o ↦ inr o
    | inl is_left ↦ elim (own-from board ids c p (p - 1) left above (left_of p low) (so d)) [
      | inr o ↦ inr (own_as is_left o)
      | inl is_above ↦ elim (own-from board ids c p (p + 26) above under (inr (inr (inl refl))) (so b)) [
        | inr o ↦ inr (own_as (is_left ∙ is_above) o)
        | inl is_under ↦ elim (own-from board ids c p (p - 26) under p (under_of p low) (so a)) [
          | inr o ↦ inr (own_as (is_left ∙ is_above ∙ is_under) o)
          | inl is_p ↦ inl (is_left ∙ is_above ∙ is_under ∙ is_p)
        ]
      ]
    ]
  ];
  right = (so e).there;
  left = so f;
  above = so g;
  under = so h;
}
  where
    low : 27 ≤ p
    low = (IsOn-inside p on).low

    so : {q o l : ℕ} → IsIdOr board ids s q o l → IsIdOr board ids (stone c) q o l
    so {q} {o} {l} own = subst (λ (x : Cell). IsIdOr board ids x q o l) is own

    own_as : {l : ℕ} → id ≡ l → IsOwn board ids c p l → IsOwn board ids c p id
    own_as {l} e o = subst (λ (k : ℕ). IsOwn board ids c p k) (sym e) o

pub IsJoining-code : (board : List Cell) (ids new : List ℕ) (c : Colour) (p id x y z : ℕ) → IsFramed board
    → length ids ≡ 702 → 27 ≤ p → p < 702 → at board p ≡ Empty
    → AreOwn board ids c p id x y z → new ≡ map (rename_three id x y z) (set ids p id)
    → IsJoining board ids new c p id
IsJoining-code board ids new c p id x y z framed long low high empty own made = record {
  here = at_p;
  from = own.from;
  joins = by_side;
  alike = λ q r s t e. at_stone q s ∙ ap f e ∙ sym (at_stone r t);
  others = λ q s. by_three q s (of_three id x y z (id_of ids q));
}
  where
    f : ℕ → ℕ
    f = rename_three id x y z

    at_place : (q : ℕ) → q < 702 → id_of new q ≡ rename_three id x y z (id_of (set ids p id) q)
    at_place q below =
        ap (λ (ls : List ℕ). id_of ls q) made
        ∙ get_or-map (rename_three id x y z) (set ids p id) q 0 0
        (omega (arith, below, long, length-set ids p id))

    at_p : id_of new p ≡ id
    at_p =
        at_place p high ∙ ap (rename_three id x y z) (get_or-set_same ids p id 0 (omega (arith, high, long)))
        ∙ rename_three-to id x y z

    stone_place : (q : ℕ) → IsStone (at board q) → (q < 702) × (q ≢ p)
    stone_place q s = (
      (let below = in_list board q (IsStone-point (at board q) s) in
          let size = framed.length_is in
          omega (arith, below, size)),
      (λ e. IsStone-filled (at board q) s (ap (λ (k : ℕ). at board k) e ∙ empty)),
    )

    at_stone : (q : ℕ) → IsStone (at board q) → id_of new q ≡ rename_three id x y z (id_of ids q)
    at_stone q s =
        let known = stone_place q s in
        at_place q known.0 ∙ ap (rename_three id x y z) (get_or-set_other ids p q id 0 known.1)

    turned : (q k : ℕ) → IsStone (at board q) → id_of ids q ≡ k → rename_three id x y z k ≡ id
        → id_of new q ≡ id
    turned q k s e h = at_stone q s ∙ ap (rename_three id x y z) e ∙ h

    by_side : (q : ℕ) → Neighbours p q → at board q ≡ stone c → id_of new q ≡ id
    by_side = all_beside (λ q. at board q ≡ stone c → id_of new q ≡ id) p
        (λ h. turned (p + 1) id (c, h) (sym (own.right h)) (rename_three-to id x y z))
        (λ h. turned (p - 1) x (c, h) (sym (own.left.there h)) (rename_three-a id x y z x refl))
        (λ h. turned (p + 26) y (c, h) (sym (own.above.there h)) (rename_three-b id x y z y refl))
        (λ h. turned (p - 26) z (c, h) (sym (own.under.there h)) (rename_three-third id x y z z refl))

    -- an id of the three is that of a neighbour, or the new stone's own
    one_of : (q k r : ℕ) → Neighbours p r → IsStone (at board q) → id_of ids q ≡ k
        → rename_three id x y z (id_of ids q) ≡ id → IsIdOr board ids (stone c) r id k
        → (id_of new q ≡ id_of ids q) ⊎ ((id_of new q ≡ id) × IsOwn board ids c p (id_of ids q))
    one_of q k r beside s is to id_or = elim (own-from board ids c p r k id beside id_or) [
      | inl same ↦ inl (at_stone q s ∙ to ∙ sym (is ∙ same))
      | inr o ↦ inr (at_stone q s ∙ to, subst (λ (l : ℕ). IsOwn board ids c p l) (sym is) o)
    ]

    by_three : (q : ℕ) → IsStone (at board q) → IsOfThree id x y z (id_of ids q)
        → (id_of new q ≡ id_of ids q) ⊎ ((id_of new q ≡ id) × IsOwn board ids c p (id_of ids q))
    by_three q s (first e h) = one_of q x (p - 1) (inr (inl (omega arith))) s e h own.left
    by_three q s (second e h) = one_of q y (p + 26) (inr (inr (inl refl))) s e h own.above
    by_three q s (third e h) = one_of q z (p - 26) (inr (inr (inr (omega arith)))) s e h own.under
    by_three q s (none h) = inl (at_stone q s ∙ h)

-- where nothing has to be joined, nothing becomes another
pub map-none : (to x y z : ℕ) (ids : List ℕ) → x ≡ to → y ≡ to → z ≡ to → map (rename_three to x y z) ids ≡ ids
map-none to x y z ids a b d =
    map-same (rename_three to x y z) ids
    (λ l. ap (rename to z) (ap (rename to y) (rename-one to x l (sym a)) ∙ rename-one to y l (sym b))
    ∙ rename-one to z l (sym d))

-- a stone is put on a board with its chains
pub AreChains-set : (board : List Cell) (ids new : List ℕ) (c : Colour) (p id x y z : ℕ)
    → IsOn most_size p → at board p ≡ Empty → AreChains board ids
    → AreOwn board ids c p id x y z → new ≡ map (rename_three id x y z) (set ids p id)
    → AreChains (set board p (stone c)) new
AreChains-set board ids new c p id x y z on empty chains own made =
    let inside = IsOn-inside p on in
    let low = inside.low in
    let high = inside.high in
    let long = chains.ids.length_is in
    let joining =
    IsJoining-code board ids new c p id x y z chains.framed long low (omega (arith, high)) empty own made in
    record {
      framed = IsFramed-set board p (stone c) (empty-point board p empty) chains.framed;
      ids = AreChainIds-steps (set board p (stone c)) new
          (ap length made ∙ length-map (set ids p id) (rename_three id x y z) ∙ length-set ids p id
          ∙ long)
          (AreLocalIds-joining board ids new c p id empty (AreLocalIds-of board ids chains.ids) joining);
    }
