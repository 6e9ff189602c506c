-- Paths, and the ids of chains when stones come and go.
use Rattle.std.proofs.Common.{◌≡◌, ℕ, List, length, refl, sym, ◌∙◌, ap, subst, inl, inr, get_or-set_other}
use Rattle.std.proofs.Common.{get_or-set_same}
use Rattle.std.specs.Prelude.{◌⊎◌, ◌≢◌}
use Rattle.std.proofs.Math.ListN.{set}
use Rattle.go_base.specs.Point.{Neighbours}
use Rattle.go_base.specs.declared.colours.Colour.{Colour}
use Rattle.go_board.specs.Board.{at, stone, IsStone}
use Rattle.go_board.specs.Chain.{Joined, itself, by_way_of}
use Rattle.go_board.specs.private.ChainId.{id_of, AreChainIds}
use Rattle.go_board.specs.declared.board.Cell.{Cell}
use Rattle.go_board.specs.declared.board.Cell.TheVariants.{Edge, Empty}
use Rattle.go_board.proofs.boards.Cells.{stone-point, stone-filled, empty-point}
use Rattle.go_board.proofs.captures.CapturedStones.{in_list}
use Rattle.std.proofs.lemmas.Bool.{cases_eq}
use Rattle.go_board.proofs.boards.Neighbours.{Neighbours-sym}

pub Joined-then : {board : List Cell} {p q r : ℕ} → Joined board p q → Joined board q r → Joined board p r
Joined-then (itself point) rest = rest
Joined-then (by_way_of s point next same first) rest = by_way_of s point next same (Joined-then first rest)

pub Joined-same : {board : List Cell} {p q : ℕ} → Joined board p q → at board q ≡ at board p
Joined-same (itself point) = refl
Joined-same (by_way_of r point next same rest) = Joined-same rest ∙ same

pub Joined-point : {board : List Cell} {p q : ℕ} → Joined board p q → at board p ≢ Edge
Joined-point (itself point) = point
Joined-point (by_way_of r point next same rest) = point

pub Joined-back : {board : List Cell} {p q : ℕ} → Joined board p q → Joined board q p
Joined-back (itself point) = itself point
Joined-back (by_way_of {p} {q} r point next same rest) =
    Joined-then (Joined-back rest)
    (by_way_of p (λ e. point (sym same ∙ e)) (Neighbours-sym next) (sym same) (itself point))

-- a path stays where all that is joined to its start is as it was
pub Joined-kept : (old new : List Cell) {p q : ℕ} → ((r : ℕ) → Joined old p r → at new r ≡ at old r) → Joined old p q
    → Joined new p q
Joined-kept old new kept (itself {p} point) = itself (λ e. point (sym (kept p (itself point)) ∙ e))
Joined-kept old new kept (by_way_of {p} {q} r point next same rest) =
    let here : at new p ≡ at old p = kept p (itself point) in
    let there : at new r ≡ at old r = kept r (by_way_of r point next same (itself (Joined-point rest))) in
    by_way_of r (λ e. point (sym here ∙ e)) next (there ∙ same ∙ sym here)
    (Joined-kept old new (λ s j. kept s (by_way_of r point next same j)) rest)

pub IsStone-point : (x : Cell) → IsStone x → x ≢ Edge
IsStone-point x s e = stone-point s.0 (sym s.1 ∙ e)

pub IsStone-filled : (x : Cell) → IsStone x → x ≢ Empty
IsStone-filled x s e = stone-filled s.0 (sym s.1 ∙ e)

pub IsStone-joined : (board : List Cell) (p q : ℕ) → Joined board p q → IsStone (at board p) → IsStone (at board q)
IsStone-joined board p q path s = (s.0, Joined-same path ∙ s.1)

-- ---- ids, step by step

-- each id is that of a stone of the chain, and neighbours of one colour have the same
pub record AreLocalIds (board : List Cell) (ids : List ℕ) : Type 0 where
  pub own : (p : ℕ) → IsStone (at board p) → Joined board p (id_of ids p)
  pub alike : (p q : ℕ) → IsStone (at board p) → Neighbours p q → at board q ≡ at board p
      → id_of ids p ≡ id_of ids q

-- so all stones of a chain have one id
pub along-path : (board : List Cell) (ids : List ℕ)
    → ((p q : ℕ) → IsStone (at board p) → Neighbours p q → at board q ≡ at board p
    → id_of ids p ≡ id_of ids q)
    → {p q : ℕ} → Joined board p q → IsStone (at board p) → id_of ids p ≡ id_of ids q
along-path board ids alike (itself point) s = refl
along-path board ids alike (by_way_of {p} {q} r point next same rest) s =
    alike p r s next same ∙ along-path board ids alike rest (s.0, same ∙ s.1)

pub AreChainIds-steps : (board : List Cell) (ids : List ℕ) → length ids ≡ 702 → AreLocalIds board ids
    → AreChainIds board ids
AreChainIds-steps board ids long l = record {
  length_is = long;
  own = l.own;
  same = λ p q s t. (
    (λ e. Joined-then (l.own p s) (Joined-back (subst (λ (k : ℕ). Joined board q k) (sym e) (l.own q t)))),
    (λ path. along-path board ids l.alike path s),
  );
}

-- only the ids of stones count
pub AreChainIds-same : (board : List Cell) (old new : List ℕ) → length new ≡ 702
    → ((p : ℕ) → IsStone (at board p) → id_of new p ≡ id_of old p) → AreChainIds board old → AreChainIds board new
AreChainIds-same board old new long same a = record {
  length_is = long;
  own = λ p s. subst (λ (k : ℕ). Joined board p k) (sym (same p s)) (a.own p s);
  same = λ p q s t. (
    (λ e. (a.same p q s t).0 (sym (same p s) ∙ e ∙ same q t)),
    (λ path. same p s ∙ (a.same p q s t).1 path ∙ sym (same q t)),
  );
}

pub AreLocalIds-of : (board : List Cell) (ids : List ℕ) → AreChainIds board ids → AreLocalIds board ids
AreLocalIds-of board ids a = record {
  own = a.own;
  alike = λ p q s next same. (a.same p q s (s.0, same ∙ s.1)).1
      (by_way_of q (IsStone-point (at board p) s) next same
      (itself (λ e. IsStone-point (at board p) s (sym same ∙ e))));
}

-- ---- a stone is placed on an empty point

-- a neighbour of the point with a stone of this colour and this id
pub record IsOwn (board : List Cell) (ids : List ℕ) (c : Colour) (p id : ℕ) : Type 0 where
  pub place : ℕ
  pub neighbours : Neighbours p place
  pub holds : at board place ≡ stone c
  pub id_is : id_of ids place ≡ id

-- The new stone and the chains beside it have one id, and the other chains have theirs.
pub record IsJoining (board : List Cell) (ids new : List ℕ) (c : Colour) (p id : ℕ) : Type 0 where
  pub here : id_of new p ≡ id
  pub from : (id ≡ p) ⊎ IsOwn board ids c p id
  pub joins : (q : ℕ) → Neighbours p q → at board q ≡ stone c → id_of new q ≡ id
  pub alike : (q r : ℕ) → IsStone (at board q) → IsStone (at board r) → id_of ids q ≡ id_of ids r
      → id_of new q ≡ id_of new r
  pub others : (q : ℕ) → IsStone (at board q)
      → (id_of new q ≡ id_of ids q) ⊎ ((id_of new q ≡ id) × IsOwn board ids c p (id_of ids q))

pub set-same : (board : List Cell) (p : ℕ) (x : Cell) → at board p ≡ Empty → at (set board p x) p ≡ x
set-same board p x empty = get_or-set_same board p x Edge (in_list board p (empty-point board p empty))

-- the paths between stones don't go through an empty point
pub Joined-set : (board : List Cell) (p : ℕ) (x : Cell) {q r : ℕ} → at board p ≡ Empty → IsStone (at board q)
    → Joined board q r → Joined (set board p x) q r
Joined-set board p x {q} {r} empty s path =
    Joined-kept board (set board p x)
    (λ t j. get_or-set_other board p t x Edge
    (λ e. IsStone-filled (at board q) s (sym (Joined-same j) ∙ ap (λ (k : ℕ). at board k) e ∙ empty))) path

-- the new stone is joined to what its neighbours of the same colour are joined to
pub Joined-own : (board : List Cell) (ids : List ℕ) (c : Colour) (p id : ℕ) → at board p ≡ Empty
    → AreLocalIds board ids → IsOwn board ids c p id
    → Joined (set board p (stone c)) p id
Joined-own board ids c p id empty l o =
    let here : at (set board p (stone c)) p ≡ stone c = set-same board p (stone c) empty in
    let r = o.place in
    let s : IsStone (at board r) = (c, o.holds) in
    let path : Joined (set board p (stone c)) r id =
    subst (λ (k : ℕ). Joined (set board p (stone c)) r k) o.id_is
    (Joined-set board p (stone c) empty s (l.own r s)) in
    let there : at (set board p (stone c)) r ≡ stone c =
    get_or-set_other board p r (stone c) Edge
    (λ e. stone-filled c (sym o.holds ∙ ap (λ (k : ℕ). at board k) e ∙ empty)) ∙ o.holds in
    by_way_of r (λ e. stone-point c (sym here ∙ e)) o.neighbours (there ∙ sym here) path

pub AreLocalIds-joining : (board : List Cell) (ids new : List ℕ) (c : Colour) (p id : ℕ) → at board p ≡ Empty
    → AreLocalIds board ids → IsJoining board ids new c p id
    → AreLocalIds (set board p (stone c)) new
AreLocalIds-joining board ids new c p id empty l j = record {
  own = λ q s. elim (cases_eq q p) [
    | inl is ↦ subst (λ (k : ℕ). Joined cells k (id_of new k)) (sym is)
        (subst (λ (k : ℕ). Joined cells p k) (sym j.here) to_id)
    | inr another ↦ own_other q another (stays q another s)
  ];
  alike = λ q r s next same. elim (cases_eq q p) [
    | inl is ↦ elim (cases_eq r p) [
      | inl too ↦ ap (id_of new) (is ∙ sym too)
      | inr another ↦
          ap (id_of new) is ∙ j.here
          ∙ sym (j.joins r (subst (λ (k : ℕ). Neighbours k r) is next)
          (sym (other_cell r another) ∙ same ∙ ap (λ (k : ℕ). at cells k) is ∙ here))
    ]
    | inr another ↦ elim (cases_eq r p) [
      | inl is ↦
          j.joins q (Neighbours-sym (subst (λ (k : ℕ). Neighbours q k) is next))
          (sym (other_cell q another) ∙ sym same ∙ ap (λ (k : ℕ). at cells k) is ∙ here)
          ∙ sym (ap (id_of new) is ∙ j.here)
      | inr too ↦ j.alike q r (stays q another s) (stays r too (s.0, same ∙ s.1))
          (l.alike q r (stays q another s) next (sym (other_cell r too) ∙ same ∙ other_cell q another))
    ]
  ];
}
  where
    cells : List Cell
    cells = set board p (stone c)

    here : at (set board p (stone c)) p ≡ stone c
    here = set-same board p (stone c) empty

    other_cell : (q : ℕ) → q ≢ p → at (set board p (stone c)) q ≡ at board q
    other_cell q another = get_or-set_other board p q (stone c) Edge another

    stays : (q : ℕ) → q ≢ p → IsStone (at (set board p (stone c)) q) → IsStone (at board q)
    stays q another s = (s.0, sym (other_cell q another) ∙ s.1)

    to_id : Joined (set board p (stone c)) p id
    to_id = elim j.from [
      | inl is ↦ subst (λ (k : ℕ). Joined (set board p (stone c)) p k) (sym is)
          (itself (λ e. stone-point c (sym here ∙ e)))
      | inr o ↦ Joined-own board ids c p id empty l o
    ]

    own_other : (q : ℕ) → q ≢ p → IsStone (at board q) → Joined (set board p (stone c)) q (id_of new q)
    own_other q another s =
        let old : Joined (set board p (stone c)) q (id_of ids q) =
        Joined-set board p (stone c) empty s (l.own q s) in
        elim (j.others q s) [
          | inl is ↦ subst (λ (k : ℕ). Joined (set board p (stone c)) q k) (sym is) old
          | inr joined ↦
              subst (λ (k : ℕ). Joined (set board p (stone c)) q k) (sym joined.0)
              (Joined-then old (Joined-then
              (Joined-back (Joined-own board ids c p (id_of ids q) empty l joined.1)) to_id))
        ]

-- ---- whole chains are removed

-- what is left is as it was, and so is all that is joined to it
pub record IsLess (old new : List Cell) : Type 0 where
  pub kept : (p : ℕ) → IsStone (at new p) → at new p ≡ at old p
  pub whole : (p q : ℕ) → IsStone (at new p) → Joined old p q → at new q ≡ at old q

pub AreLocalIds-less : (old new : List Cell) (ids : List ℕ) → IsLess old new → AreLocalIds old ids
    → AreLocalIds new ids
AreLocalIds-less old new ids less l = record {
  own = λ p s. Joined-kept old new (λ r path. less.whole p r s path) (l.own p (s.0, sym (less.kept p s) ∙ s.1));
  alike = λ p q s next same.
      let t : IsStone (at new q) = (s.0, same ∙ s.1) in
      l.alike p q (s.0, sym (less.kept p s) ∙ s.1) next (sym (less.kept q t) ∙ same ∙ less.kept p s);
}
