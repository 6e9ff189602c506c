-- Chain ids found chain by chain.
use Rattle.std.proofs.Common.{◌≡◌, ℕ, zero, suc, ◌+◌, ◌<◌, ◌≤◌, List, length, Contains, replicate, refl, sym, ◌∙◌, ap}
use Rattle.std.proofs.Common.{subst, arith, inl, inr, get_or-set_other, get_or-set_same}
use Rattle.std.specs.Prelude.{◌⊎◌, ◌≢◌, slice_index}
use Rattle.std.proofs.lemmas.List.Elements.{Contains-get_or}
use Rattle.std.proofs.Math.ListN.{set, length-set}
use Rattle.go_board.specs.Board.{at, IsStone}
use Rattle.go_board.specs.private.Frame.{IsFramed}
use Rattle.go_board.specs.Chain.{Joined, itself, by_way_of}
use Rattle.go_board.specs.decisions.Chain.{joined?}
use Rattle.go_board.specs.private.ChainId.{id_of, AreChainIds, IsChainOf}
use Rattle.go_board.specs.private.Steps.{AreGiven, AreOthersKept, HasFragmentId}
use Rattle.go_board.specs.declared.board.Cell.{Cell}
use Rattle.go_board.proofs.captures.CapturedStones.{in_list}
use Rattle.go_board.proofs.floods.Regions.{index_of}
use Rattle.go_board.proofs.ids.Paths.{Joined-then, Joined-back, IsStone-point, IsStone-joined, AreChainIds-steps}
use Rattle.std.proofs.lemmas.Bool.{cases_eq}
use Rattle.go_board.proofs.General.{earlier_or_last, by_dec}
use Rattle.go_board.proofs.boards.Neighbours.{IsOn-inside}

-- the first `n` places were given the id
pub record IsGiving (old : List ℕ) (places : List ℕ) (id n : ℕ) (new : List ℕ) : Type 0 where
  pub length_is : length new ≡ 702
  pub given : (k : ℕ) → k < n → id_of new (slice_index places k) ≡ id
  pub others : (p : ℕ) → ¬ Contains places p → id_of new p ≡ id_of old p

-- stones may be without an id: an id is of the chain, and a chain has one
pub record IsPart (board : List Cell) (ids : List ℕ) : Type 0 where
  pub own : (p : ℕ) → IsStone (at board p) → id_of ids p ≢ 0 → Joined board p (id_of ids p)
  pub closed : (p q : ℕ) → IsStone (at board p) → Joined board p q → id_of ids p ≡ id_of ids q

-- what has an id so far: the stones below n
pub record AreIdsSoFar (board : List Cell) (n : ℕ) (ids : List ℕ) : Type 0 where
  pub length_is : length ids ≡ 702
  pub part : IsPart board ids
  pub done : (p : ℕ) → p < n → IsStone (at board p) → id_of ids p ≢ 0
  pub blank : (p : ℕ) → ¬ IsStone (at board p) → id_of ids p ≡ 0

zero-id : (n p : ℕ) → id_of (replicate n 0) p ≡ 0
zero-id zero p = refl
zero-id (suc n) zero = refl
zero-id (suc n) (suc p) = zero-id n p

pub AreIdsSoFar-none : (board : List Cell) (ids : List ℕ) → ids ≡ replicate 702 0 → length ids ≡ 702
    → AreIdsSoFar board 0 ids
AreIdsSoFar-none board ids none long =
    let all : (p : ℕ) → id_of ids p ≡ 0 = λ p. ap (λ (ls : List ℕ). id_of ls p) none ∙ zero-id 702 p in
    record {
      length_is = long;
      part = record { own = λ p s some. absurd (some (all p)); closed = λ p q s path. all p ∙ sym (all q) };
      done = λ p none. absurd (omega arith);
      blank = λ p _. all p;
    }

-- a chain gets a place of its own as its id
pub IsPart-named : (board : List Cell) (n : ℕ) (old new : List ℕ) → IsFramed board → IsStone (at board n)
    → HasFragmentId board old new n → IsPart board old → IsPart board new
IsPart-named board n old new framed stone named l = record {
  own =
      λ p s some. by_dec (joined? board n p)
      (λ path. subst (λ (k : ℕ). Joined board p k) (sym (named.given p path)) (Joined-back path))
      (λ away. subst (λ (k : ℕ). Joined board p k) (sym (named.others p away))
      (l.own p s (λ e. some (named.others p away ∙ e))));
  closed =
      λ p q s path. by_dec (joined? board n p)
      (λ h. named.given p h ∙ sym (named.given q (Joined-then h path)))
      (λ k. named.others p k ∙ l.closed p q s path
      ∙ sym (named.others q (λ h. k (Joined-then h (Joined-back path)))));
}

-- a stone with an id keeps one, and those of the chain get one
pub named-has : (board : List Cell) (n p : ℕ) (old new : List ℕ) → IsFramed board → IsStone (at board n)
    → HasFragmentId board old new n → (id_of old p ≢ 0) ⊎ Joined board n p
    → id_of new p ≢ 0
named-has board n p old new framed stone named had = by_dec (joined? board n p)
    (λ path e.
    let low = (IsOn-inside n (framed.inside n (IsStone-point (at board n) stone))).low in
    let zero : n ≡ 0 = sym (named.given p path) ∙ e in
    absurd (omega (arith, low, zero)))
    (λ away e. elim had [ inl some ↦ some (sym (named.others p away) ∙ e) | inr path ↦ away path ])

-- the places of a chain were given an id
pub HasFragmentId-given : (board : List Cell) (n : ℕ) (chain old new : List ℕ) → IsChainOf board n chain
    → AreGiven new chain n → AreOthersKept old new chain → HasFragmentId board old new n
HasFragmentId-given board n chain old new is_chain given others = record {
  given = λ p path. given p ((is_chain p).1 path);
  others = λ p away. others p (λ h. away ((is_chain p).0 h));
}

pub AreIdsSoFar-chain : (board : List Cell) (n : ℕ) (chain old new : List ℕ) → IsFramed board → IsStone (at board n)
    → IsChainOf board n chain → AreGiven new chain n → AreOthersKept old new chain
    → length new ≡ 702 → AreIdsSoFar board n old → AreIdsSoFar board (n + 1) new
AreIdsSoFar-chain board n chain old new framed stone is_chain given others long l =
    let named = HasFragmentId-given board n chain old new is_chain given others in
    record {
      length_is = long;
      part = IsPart-named board n old new framed stone named l.part;
      done = λ p below s. elim (earlier_or_last p n below) [
        | inl earlier ↦ named-has board n p old new framed stone named (inl (l.done p earlier s))
        | inr last ↦ named-has board n p old new framed stone named
            (inr (subst (λ (k : ℕ). Joined board n k) (sym last) (itself (IsStone-point (at board n) stone))))
      ];
      blank = λ p bare. named.others p (λ path. bare (IsStone-joined board n p path stone)) ∙ l.blank p bare;
    }

-- a place without a stone, or with an id, is passed over
pub AreIdsSoFar-past : (board : List Cell) (n : ℕ) (ids : List ℕ) → (IsStone (at board n) → id_of ids n ≢ 0)
    → AreIdsSoFar board n ids → AreIdsSoFar board (n + 1) ids
AreIdsSoFar-past board n ids has l = record {
  length_is = l.length_is;
  part = l.part;
  done = λ p below s. elim (earlier_or_last p n below) [
    | inl earlier ↦ l.done p earlier s
    | inr last ↦ subst (λ (k : ℕ). id_of ids k ≢ 0) (sym last)
        (has (subst (λ (k : ℕ). IsStone (at board k)) last s))
  ];
  blank = l.blank;
}

-- where no stone is without an id, these are the ids
pub AreChainIds-part : (board : List Cell) (ids : List ℕ) → length ids ≡ 702 → IsPart board ids
    → ((p : ℕ) → IsStone (at board p) → id_of ids p ≢ 0) → AreChainIds board ids
AreChainIds-part board ids long l id_is = AreChainIds-steps board ids long (record {
  own = λ p s. l.own p s (id_is p s);
  alike =
      λ p q s next same. l.closed p q s
      (by_way_of q (IsStone-point (at board p) s) next same
      (itself (λ e. IsStone-point (at board p) s (sym same ∙ e))));
})

pub AreIdsSoFar-done : (board : List Cell) (n : ℕ) (ids : List ℕ) → IsFramed board → 702 ≤ n
    → AreIdsSoFar board n ids → AreChainIds board ids
AreIdsSoFar-done board n ids framed all l = AreChainIds-part board ids l.length_is l.part
    (λ p s. let below = in_list board p (IsStone-point (at board p) s) in
    let long = framed.length_is in
    l.done p (omega (arith, below, long, all)) s)

pub given-all : (old places new : List ℕ) (id n : ℕ) → length places ≤ n → IsGiving old places id n new
    → AreGiven new places id
given-all old places new id n all g p h =
    let below = h.1 in
    subst (λ (k : ℕ). id_of new k ≡ id) (index_of places p h) (g.given h.0 (omega (arith, below, all)))

pub IsGiving-none : (old places : List ℕ) (id : ℕ) → length old ≡ 702 → IsGiving old places id 0 old
IsGiving-none old places id long =
    record { length_is = long; given = λ k none. absurd (omega arith); others = λ p _. refl }

pub IsGiving-more : (old places ids new : List ℕ) (id n p : ℕ) → n < length places → p ≡ slice_index places n
    → p < 702 → new ≡ set ids p id
    → IsGiving old places id n ids → IsGiving old places id (n + 1) new
IsGiving-more old places ids new id n p in_range p_is below made g =
    subst (λ (ls : List ℕ). IsGiving old places id (n + 1) ls) (sym made) (record {
      length_is = length-set ids p id ∙ g.length_is;
      given = λ k under. elim (cases_eq (slice_index places k) p) [
        | inl same ↦ ap (id_of (set ids p id)) same
            ∙ get_or-set_same ids p id 0 (let long = g.length_is in omega (arith, below, long))
        | inr another ↦ get_or-set_other ids p (slice_index places k) id 0 another
            ∙ elim (earlier_or_last k n under) [
              | inl earlier ↦ g.given k earlier
              | inr last ↦ absurd (another (ap (slice_index places) last ∙ sym p_is))
            ]
      ];
      others =
          λ q out. get_or-set_other ids p q id 0
          (λ e. out (subst (λ (r : ℕ). Contains places r) (sym (e ∙ p_is)) (Contains-get_or places n 0 in_range)))
          ∙ g.others q out;
    })
