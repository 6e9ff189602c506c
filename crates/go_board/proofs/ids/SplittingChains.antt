-- Chain ids when a stone is removed: its chain may fall apart.
use Rattle.std.proofs.Common.{◌≡◌, ℕ, ◌+◌, ◌-◌, ◌<◌, ◌≤◌, List, length, refl, sym, ◌∙◌, ap, subst, arith, inl, inr}
use Rattle.std.proofs.Common.{Bool, cond, get_or-set_other, get_or-set_same}
use Rattle.std.specs.Prelude.{◌⊎◌, ◌≢◌, ◌==◌, ◌&&◌}
use Rattle.std.proofs.Math.ListN.{set, length-set}
use Rattle.go_base.specs.Point.{Neighbours}
use Rattle.go_board.specs.Board.{at, IsStone}
use Rattle.go_board.specs.private.Frame.{IsFramed}
use Rattle.go_board.specs.Chain.{Joined, itself, by_way_of}
use Rattle.go_board.specs.decisions.Chain.{joined?}
use Rattle.go_board.specs.private.ChainId.{id_of, ids_at, ids_beside, AreChainIds}
use Rattle.go_board.specs.private.Steps.{IsFragmentSet, IsCut}
use Rattle.go_board.specs.declared.board.Cell.{Cell}
use Rattle.go_board.specs.declared.board.Cell.TheVariants.{Edge, Empty}
use Rattle.go_board.proofs.boards.Cells.{IsFramed-set}
use Rattle.go_board.proofs.captures.CapturedStones.{in_list}
use Rattle.go_board.proofs.ids.Paths.{Joined-then, Joined-back, Joined-kept, IsStone-point}
use Rattle.go_board.proofs.ids.Paths.{IsStone-filled, IsStone-joined, AreChainIds-steps, AreChainIds-same, along-path}
use Rattle.go_board.proofs.liberties.PseudoLiberties.{stone-test}
use Rattle.std.proofs.lemmas.Bool.{eq-eqb, cases_eq}
use Rattle.go_board.proofs.boards.Neighbours.{all_beside}
use Rattle.go_board.proofs.General.{by_dec}

-- ---- paths without a place

-- a path by way of p: after p it goes on from a neighbour of p
pub record IsByWayOf (board : List Cell) (p q r : ℕ) : Type 0 where
  pub side : ℕ
  pub neighbours : Neighbours p side
  pub same : at board side ≡ at board p
  pub to : Joined board q p
  pub rest : Joined (set board p Empty) side r

still : (board : List Cell) (p q : ℕ) → q ≢ p → at (set board p Empty) q ≡ at board q
still board p q another = get_or-set_other board p q Empty Edge another

-- a path to another place goes by way of p, or doesn't need it
pub with_or_without : (board : List Cell) (p : ℕ) {q r : ℕ} → r ≢ p → Joined board q r
    → ((q ≢ p) × Joined (set board p Empty) q r) ⊎ IsByWayOf board p q r
with_or_without board p off (itself {p = q} point) = inl (off, itself (λ e. point (sym (still board p q off) ∙ e)))
with_or_without board p off (by_way_of {p = q} {q = r} s point next same rest) =
    elim (with_or_without board p off rest) [
      | inr way ↦ inr (record {
        side = way.side;
        neighbours = way.neighbours;
        same = way.same;
        to = by_way_of s point next same way.to;
        rest = way.rest;
      })
      | inl without ↦ elim (cases_eq q p) [
        | inl is ↦ inr (record {
          side = s;
          neighbours = subst (λ (k : ℕ). Neighbours k s) is next;
          same = same ∙ ap (at board) is;
          to = subst (λ (k : ℕ). Joined board q k) is (itself point);
          rest = without.1;
        })
        | inr another ↦
            let here = still board p q another in
            let there = still board p s without.0 in
            inl (another, by_way_of s (λ e. point (sym here ∙ e)) next (there ∙ same ∙ sym here) without.1)
      ]
    ]

-- a stone that is joined to p is joined to a neighbour of p without it
pub side-of : (board : List Cell) (p q : ℕ) → q ≢ p → Joined board q p → IsByWayOf board p p q
side-of board p q off path =
    elim (with_or_without board p off (Joined-back path)) [ inl without ↦ absurd (without.0 refl) | inr way ↦ way ]

-- where one neighbour of p at most is of its chain, no other stones need it
pub Joined-without : (board : List Cell) (p q r : ℕ)
    → ((a b : ℕ) → Neighbours p a → Neighbours p b → at board a ≡ at board p → at board b ≡ at board p → a ≡ b)
    → q ≢ p → r ≢ p → Joined board q r → Joined (set board p Empty) q r
Joined-without board p q r one q_off r_off path = elim (with_or_without board p r_off path) [
  | inl without ↦ without.1
  | inr way ↦
      let back = side-of board p q q_off way.to in
      let same : back.side ≡ way.side = one back.side way.side back.neighbours way.neighbours back.same way.same in
      Joined-then (Joined-back back.rest) (subst (λ (k : ℕ). Joined (set board p Empty) k r) (sym same) way.rest)
]

-- ---- one neighbour in the chain at most

ids_at-one : (board : List Cell) (ids : List ℕ) (id q : ℕ) → IsStone (at board q) → id_of ids q ≡ id
    → ids_at board ids id q ≡ 1
ids_at-one board ids id q s e =
    ap (λ (b : Bool). cond (b && (id_of ids q == id)) 1 0) (stone-test (at board q) s)
    ∙ ap (λ (b : Bool). cond b 1 0) (eq-eqb (id_of ids q) id e)

-- two neighbours that count are one, where the neighbours count 1 at most
one-side : (f : ℕ → ℕ) (p : ℕ) → f (p + 1) + f (p - 1) + f (p + 26) + f (p - 26) ≤ 1
    → (a : ℕ) → Neighbours p a → f a ≡ 1 → (b : ℕ) → Neighbours p b → f b ≡ 1 → a ≡ b
one-side f p few = all_beside (λ a. f a ≡ 1 → (b : ℕ) → Neighbours p b → f b ≡ 1 → a ≡ b) p
    (λ x. all_beside (λ b. f b ≡ 1 → p + 1 ≡ b) p (λ y. refl) (λ y. absurd (omega arith)) (λ y. absurd (omega arith))
    (λ y. absurd (omega arith)))
    (λ x. all_beside (λ b. f b ≡ 1 → p - 1 ≡ b) p (λ y. absurd (omega arith)) (λ y. refl) (λ y. absurd (omega arith))
    (λ y. absurd (omega arith)))
    (λ x. all_beside (λ b. f b ≡ 1 → p + 26 ≡ b) p (λ y. absurd (omega arith)) (λ y. absurd (omega arith)) (λ y. refl)
    (λ y. absurd (omega arith)))
    (λ x. all_beside (λ b. f b ≡ 1 → p - 26 ≡ b) p (λ y. absurd (omega arith)) (λ y. absurd (omega arith))
    (λ y. absurd (omega arith)) (λ y. refl))

-- a neighbour that counts makes the count more than 0
some-side : (f : ℕ → ℕ) (p a : ℕ) → Neighbours p a → f a ≡ 1 → 0 < f (p + 1) + f (p - 1) + f (p + 26) + f (p - 26)
some-side f p = all_beside (λ a. f a ≡ 1 → 0 < f (p + 1) + f (p - 1) + f (p + 26) + f (p - 26)) p (λ one. omega arith)
    (λ one. omega arith) (λ one. omega arith) (λ one. omega arith)

-- ---- the chain stays whole

gone : (board : List Cell) (p : ℕ) → IsStone (at board p) → at (set board p Empty) p ≡ Empty
gone board p s = get_or-set_same board p Empty Edge (in_list board p (IsStone-point (at board p) s))

-- a stone that is left is elsewhere, and stood there before
left-stone : (board : List Cell) (p q : ℕ) → IsStone (at board p) → IsStone (at (set board p Empty) q)
    → (q ≢ p) × IsStone (at board q)
left-stone board p q s t =
    let off : q ≢ p =
    λ e. IsStone-filled (at (set board p Empty) q) t (ap (at (set board p Empty)) e ∙ gone board p s) in
    (off, (t.0, sym (still board p q off) ∙ t.1))

-- and its id stays
removed-id : (board : List Cell) (ids : List ℕ) (p : ℕ) → IsStone (at board p) → (q : ℕ)
    → IsStone (at (set board p Empty) q) → id_of (set ids p 0) q ≡ id_of ids q
removed-id board ids p s q t = get_or-set_other ids p q 0 0 (left-stone board p q s t).0

-- neighbours that are left have the ids of before
left-alike : (board : List Cell) (ids : List ℕ) (p : ℕ) → IsStone (at board p) → AreChainIds board ids → (q r : ℕ)
    → IsStone (at (set board p Empty) q) → Neighbours q r
    → at (set board p Empty) r ≡ at (set board p Empty) q → id_of ids q ≡ id_of ids r
left-alike board ids p s a q r t next same =
    let u : IsStone (at (set board p Empty) r) = (t.0, same ∙ t.1) in
    let here = left-stone board p q s t in
    let there = left-stone board p r s u in
    let alike : at board r ≡ at board q = sym (still board p r there.0) ∙ same ∙ still board p q here.0 in
    (a.same q r here.1 there.1).1
    (by_way_of r (IsStone-point (at board q) here.1) next alike (itself (IsStone-point (at board r) there.1)))

-- a neighbour of the same colour has the stone's id
side-id : (board : List Cell) (ids : List ℕ) (p q : ℕ) → IsStone (at board p) → AreChainIds board ids
    → Neighbours p q → at board q ≡ at board p
    → ids_at board ids (id_of ids p) q ≡ 1
side-id board ids p q s a next same =
    let t : IsStone (at board q) = (s.0, same ∙ s.1) in
    ids_at-one board ids (id_of ids p) q t
    (sym ((a.same p q s t).1
    (by_way_of q (IsStone-point (at board p) s) next same (itself (IsStone-point (at board q) t)))))

pub AreChainIds-whole : (board : List Cell) (ids : List ℕ) (p id beside : ℕ) → IsStone (at board p)
    → AreChainIds board ids → id ≡ id_of ids p
    → beside ≡ ids_beside board ids id p → (beside ≡ 0) ⊎ ((beside ≡ 1) × (id ≢ p))
    → AreChainIds (set board p Empty) (set ids p 0)
AreChainIds-whole board ids p id beside s a is b few =
    AreChainIds-same (set board p Empty) ids (set ids p 0) (length-set ids p 0 ∙ a.length_is)
    (removed-id board ids p s)
    (AreChainIds-steps (set board p Empty) ids a.length_is (record {
      own = λ q t.
          let known = left-stone board p q s t in
          Joined-without board p q (id_of ids q) one known.0 (away q known.0 known.1)
          (a.own q known.1);
      alike = left-alike board ids p s a;
    }))
  where
    counted : beside ≡ ids_beside board ids (id_of ids p) p
    counted = b ∙ ap (λ (l : ℕ). ids_beside board ids l p) is

    one : (x y : ℕ) → Neighbours p x → Neighbours p y → at board x ≡ at board p → at board y ≡ at board p → x ≡ y
    one x y next next2 same same2 =
        one-side (ids_at board ids (id_of ids p)) p (at_most counted few) x next (side-id board ids p x s a next same) y
        next2 (side-id board ids p y s a next2 same2)
      where
        at_most : {n : ℕ} → beside ≡ n → (beside ≡ 0) ⊎ ((beside ≡ 1) × (id ≢ p)) → n ≤ 1
        at_most e (inl none) = omega (arith, e, none)
        at_most e (inr h) = let is_one = h.0 in omega (arith, e, is_one)

    away : (q : ℕ) → q ≢ p → IsStone (at board q) → id_of ids q ≢ p
    away q off t e = by_few few
      where
        path : Joined board q p
        path = subst (λ (k : ℕ). Joined board q k) e (a.own q t)

        by_few : (beside ≡ 0) ⊎ ((beside ≡ 1) × (id ≢ p)) → ⊥
        by_few (inl none) =
            let way = side-of board p q off path in
            let some = some-side (ids_at board ids (id_of ids p)) p way.side way.neighbours
            (side-id board ids p way.side s a way.neighbours way.same) in
            absurd (omega (arith, some, none, counted))
        by_few (inr h) = h.1 (is ∙ sym ((a.same q p t s).1 path) ∙ e)

-- ---- the chain falls apart

pub IsCut-removed : (board : List Cell) (ids : List ℕ) (p id : ℕ) → IsStone (at board p) → IsFramed board
    → AreChainIds board ids → id ≡ id_of ids p → IsCut (set board p Empty) (set ids p 0) p id
IsCut-removed board ids p id s framed a is = record {
  framed = IsFramed-set board p Empty (IsStone-point (at board p) s) framed;
  length_is = length-set ids p 0 ∙ a.length_is;
  alike = λ q r t next same. kept q t ∙ left-alike board ids p s a q r t next same ∙ sym (kept r (t.0, same ∙ t.1));
  own = λ q t o.
      let known = left-stone board p q s t in
      subst (λ (k : ℕ). Joined (set board p Empty) q k) (sym (kept q t))
      (Joined-kept board (set board p Empty)
      (λ r path. still board p r
      (λ e. o (kept q t ∙ (a.same q p known.1 s).1 (subst (λ (k : ℕ). Joined board q k) e path) ∙ sym is)))
      (a.own q known.1));
  cut = λ q t e.
      let known = left-stone board p q s t in
      let way = side-of board p q known.0 ((a.same q p known.1 s).0 (sym (kept q t) ∙ e ∙ is)) in
      (way.side, way.neighbours, Joined-back way.rest);
}
  where
    kept : (q : ℕ) → IsStone (at (set board p Empty) q) → id_of (set ids p 0) q ≡ id_of ids q
    kept = removed-id board ids p s

-- Stones beside each other have one id. A stone's own chain has its id, or the id is that of the chain that broke up, and
-- the stone is joined to one of these places.
pub record IsSplitting (board : List Cell) (ids : List ℕ) (id : ℕ) (Left : ℕ → Type 0) : Type 0 where
  pub alike : (p q : ℕ) → IsStone (at board p) → Neighbours p q → at board q ≡ at board p → id_of ids p ≡ id_of ids q
  pub own : (p : ℕ) → IsStone (at board p)
      → Joined board p (id_of ids p) ⊎ ((id_of ids p ≡ id) × ((q : ℕ) × Left q × Joined board p q))

IsSplitting-start : (board : List Cell) (ids : List ℕ) (place id : ℕ) → IsCut board ids place id
    → IsSplitting board ids id (Neighbours place)
IsSplitting-start board ids place id c = record {
  alike = c.alike;
  own = λ p s. elim (cases_eq (id_of ids p) id) [ inl e ↦ inr (e, c.cut p s e) | inr o ↦ inl (c.own p s o) ];
}

-- the chain of one of the places got the place as its id
IsSplitting-named : (board : List Cell) (old new : List ℕ) (n id : ℕ) (Left : ℕ → Type 0)
    → IsFragmentSet board old new n id → IsSplitting board old id Left
    → IsSplitting board new id (λ q. Left q × (q ≢ n))
IsSplitting-named board old new n id Left (inl named) l = record {
  alike = λ p q s next same.
      let step : Joined board p q = by_way_of q (IsStone-point (at board p) s) next same
      (itself (IsStone-point (at board q) (s.0, same ∙ s.1))) in
      by_dec (joined? board n p)
      (λ path. named.1.given p path ∙ sym (named.1.given q (Joined-then path step)))
      (λ away. named.1.others p away ∙ l.alike p q s next same
      ∙ sym (named.1.others q (λ path. away (Joined-then path (Joined-back step)))));
  own = λ p s. by_dec (joined? board n p)
      (λ path. inl (subst (λ (k : ℕ). Joined board p k) (sym (named.1.given p path)) (Joined-back path)))
      (λ away. elim (l.own p s) [
        | inl path ↦ inl (subst (λ (k : ℕ). Joined board p k) (sym (named.1.others p away)) path)
        | inr way ↦ inr (
          named.1.others p away ∙ way.0,
          (way.1.0, (way.1.1, λ e. away (Joined-back (subst (λ (k : ℕ). Joined board p k) e way.1.2))), way.1.2),
        )
      ]);
}
IsSplitting-named board old new n id Left (inr kept) l =
    subst (λ (ls : List ℕ). IsSplitting board ls id (λ q. Left q × (q ≢ n))) (sym kept.1) (record {
      alike = l.alike;
      own = λ p s. elim (l.own p s) [
        | inl path ↦ inl path
        | inr way ↦ inr (
          way.0,
          (
            way.1.0,
            (
              way.1.1,
              λ e.
                  let path : Joined board p n = subst (λ (k : ℕ). Joined board p k) e way.1.2 in
                  kept.0 (IsStone-joined board p n path s) (sym (along-path board old l.alike path s) ∙ way.0),
            ),
            way.1.2,
          ),
        )
      ];
    })

-- once the chains of all four neighbours have ids, all stones have those of their chains
pub AreChainIds-split : (board : List Cell) (ids l1 l2 l3 l4 : List ℕ) (place id : ℕ)
    → IsCut board ids place id → IsFragmentSet board ids l1 (place + 1) id → IsFragmentSet board l1 l2 (place - 1) id
    → IsFragmentSet board l2 l3 (place + 26) id → IsFragmentSet board l3 l4 (place - 26) id
    → length l4 ≡ 702 → AreChainIds board l4
AreChainIds-split board ids l1 l2 l3 l4 place id c n1 n2 n3 n4 long =
    let f1 = IsSplitting-named board ids l1 (place + 1) id _ n1 (IsSplitting-start board ids place id c) in
    let f2 = IsSplitting-named board l1 l2 (place - 1) id _ n2 f1 in
    let f3 = IsSplitting-named board l2 l3 (place + 26) id _ n3 f2 in
    let f4 = IsSplitting-named board l3 l4 (place - 26) id _ n4 f3 in
    AreChainIds-steps board l4 long (record {
      alike = f4.alike;
      own = λ p s. elim (f4.own p s) [
        | inl path ↦ path
        | inr way ↦
            let left = way.1.1 in
            absurd (all_beside
            (λ q. q ≢ place + 1 → q ≢ place - 1 → q ≢ place + 26 → q ≢ place - 26 → ⊥) place
            (λ a b c d. a refl) (λ a b c d. b refl) (λ a b c d. c refl) (λ a b c d. d refl)
            way.1.0 left.0.0.0.0 left.0.0.0.1 left.0.0.1 left.0.1 left.1)
      ];
    })
