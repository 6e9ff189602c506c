-- What is beside a region.
use Rattle.std.proofs.Common.{◌≡◌, ℕ, ◌+◌, ◌<◌, List, length, refl, sym, ◌∙◌, ap, subst, arith, inl, inr}
use Rattle.std.proofs.Common.{Bool, false, Contains, get_or-set_same, get_or-set_other}
use Rattle.std.proofs.Math.ListN.{set, length-set}
use Rattle.std.specs.Prelude.{◌↔◌, ◌⊎◌, IsTrue, Option, Some, None, slice_index, replicate}
use Rattle.std.proofs.lemmas.Bool.{cases_eq, cases_lt, false≢true}
use Rattle.std.proofs.lemmas.List.{get_or-replicate, length-replicate, get_or_past}
use Rattle.go_board.specs.Board.{at}
use Rattle.go_board.specs.Chain.{Joined, itself, by_way_of, HasBeside, Touches}
use Rattle.go_board.specs.declared.areas.Beside.{Beside}
use Rattle.go_board.specs.declared.board.Cell.{Cell}
use Rattle.go_board.specs.declared.board.Cell.TheVariants.{Empty, Black, White}
use Rattle.go_board.specs.private.Areas.{known_at, AreKnown, IsBeside, IsBesidePoint, HasAnyBeside, IsLearnt}
use Rattle.go_board.specs.private.ChainId.{IsChainOf}
use Rattle.go_board.proofs.boards.Cells.{empty-point}
use Rattle.go_board.proofs.ids.Paths.{Joined-then, Joined-back}
use Rattle.go_board.proofs.floods.Regions.{index_of}
use Rattle.go_board.proofs.General.{earlier_or_last}
use Rattle.std.proofs.lemmas.List.Elements.{Contains-get_or}

-- ---- a point without an empty one beside it

lone : (board : List Cell) (p q : ℕ) → Joined board p q → at board p ≡ Empty → ¬ HasBeside board p Empty → q ≡ p
lone board p q (itself point) empty none = refl
lone board p q (by_way_of r point next same rest) empty none =
    absurd (none (record { place = r; neighbours = next; holds = same ∙ empty }))

lone-touches : (board : List Cell) (p : ℕ) (this : Cell) (b : Bool) → at board p ≡ Empty → ¬ HasBeside board p Empty
    → IsTrue b ↔ HasBeside board p this → IsTrue b ↔ Touches board p this
lone-touches board p this b empty none is = (
  (λ h. record { point = p; joined = itself (empty-point board p empty); beside = is.0 h }),
  (λ t. is.1 (subst (λ (q : ℕ). HasBeside board q this) (lone board p t.point t.joined empty none) t.beside)),
)

pub lone-beside : (board : List Cell) (p : ℕ) (beside : Beside) → at board p ≡ Empty → ¬ HasBeside board p Empty
    → IsBesidePoint board p beside → IsBeside board p beside
lone-beside board p beside empty none is = record {
  black = lone-touches board p _ beside.black empty none is.black;
  white = lone-touches board p _ beside.white empty none is.white;
}

-- ---- a region

region-touches : (board : List Cell) (place p : ℕ) (region : List ℕ) (this : Cell) (b : Bool)
    → IsChainOf board place region → Joined board place p → IsTrue b ↔ HasAnyBeside board region this
    → IsTrue b ↔ Touches board p this
region-touches board place p region this b chain joined is = (
  (λ h.
      let a = is.0 h in
      record {
        point = a.place;
        joined = Joined-then (Joined-back joined) ((chain a.place).0 a.listed);
        beside = a.beside;
      }),
  (λ t. is.1 (record {
    place = t.point;
    listed = (chain t.point).1 (Joined-then joined t.joined);
    beside = t.beside;
  })),
)

pub region-beside : (board : List Cell) (place p : ℕ) (region : List ℕ) (beside : Beside) → IsChainOf board place region
    → Joined board place p → IsTrue beside.black ↔ HasAnyBeside board region Black
    → IsTrue beside.white ↔ HasAnyBeside board region White → IsBeside board p beside
region-beside board place p region beside chain joined black white = record {
  black = region-touches board place p region Black beside.black chain joined black;
  white = region-touches board place p region White beside.white chain joined white;
}

-- what was learnt of a region is right
pub learnt-known : (board : List Cell) (place : ℕ) (region : List ℕ) (old new : List (Option Beside)) (beside : Beside)
    → IsChainOf board place region → IsTrue beside.black ↔ HasAnyBeside board region Black
    → IsTrue beside.white ↔ HasAnyBeside board region White → IsLearnt old new region beside → AreKnown board old
    → AreKnown board new
learnt-known board place region old new beside chain black white learnt known p b e = elim (learnt p b e) [
  | inl before ↦ known p b before
  | inr now ↦ subst (IsBeside board p) (sym now.0)
      (region-beside board place p region beside chain ((chain p).0 now.1) black white)
]

-- ---- the points of a region, one by one

-- one of the first n has this beside it
pub record HasBelow (board : List Cell) (places : List ℕ) (this : Cell) (n : ℕ) : Type 0 where
  pub index : ℕ
  pub below : index < n
  pub beside : HasBeside board (slice_index places index) this

pub below-none : (board : List Cell) (places : List ℕ) (this : Cell)
    → IsTrue false ↔ HasBelow board places this 0
below-none board places this =
    ((λ e. absurd (false≢true e)), (λ h. let below = h.below in absurd (omega (arith, below))))

pub below-more : (board : List Cell) (places : List ℕ) (this : Cell) (n p : ℕ) (a b r : Bool)
    → IsTrue r ↔ (IsTrue a ⊎ IsTrue b) → IsTrue a ↔ HasBelow board places this n → IsTrue b ↔ HasBeside board p this
    → p ≡ slice_index places n → IsTrue r ↔ HasBelow board places this (n + 1)
below-more board places this n p a b r any earlier here is = (
  (λ h. elim (any.0 h) [
    | inl old ↦
        let e = earlier.0 old in
        let below = e.below in
        record { index = e.index; below = omega (arith, below); beside = e.beside }
    | inr now ↦ record {
      index = n;
      below = omega arith;
      beside = subst (λ (q : ℕ). HasBeside board q this) is (here.0 now);
    }
  ]),
  (λ h. any.1 (elim (earlier_or_last h.index n h.below) [
    | inl old ↦ inl (earlier.1 (record { index = h.index; below = old; beside = h.beside }))
    | inr last ↦ inr (here.1 (subst (λ (q : ℕ). HasBeside board q this) (sym is)
        (subst (λ (k : ℕ). HasBeside board (slice_index places k) this) last h.beside)))
  ])),
)

pub below-all : (board : List Cell) (places : List ℕ) (this : Cell) (n : ℕ) (b : Bool) → n ≡ length places
    → IsTrue b ↔ HasBelow board places this n → IsTrue b ↔ HasAnyBeside board places this
below-all board places this n b long is = (
  (λ h.
      let e = is.0 h in
      let below = e.below in
      record {
        place = slice_index places e.index;
        listed = Contains-get_or places e.index 0 (omega (arith, below, long));
        beside = e.beside;
      }),
  (λ h.
      let listed = h.listed in
      let below = listed.1 in
      is.1 (record {
        index = listed.0;
        below = omega (arith, below, long);
        beside = subst (λ (q : ℕ). HasBeside board q this) (sym (index_of places h.place listed)) h.beside;
      })),
)

-- ---- what is learnt of a region, place by place

pub learnt-none : (old : List (Option Beside)) (places : List ℕ) (beside : Beside) → IsLearnt old old places beside
learnt-none old places beside p b e = inl e

-- one place of the region more
pub learnt-more : (old mid new : List (Option Beside)) (places : List ℕ) (beside : Beside) (q : ℕ)
    → Contains places q → new ≡ set mid q (Some beside) → IsLearnt old mid places beside
    → IsLearnt old new places beside
learnt-more old mid new places beside q listed is learnt p b e =
    let now : known_at (set mid q (Some beside)) p ≡ Some b =
    ap (λ (k : List (Option Beside)). known_at k p) (sym is) ∙ e in
    elim (cases_eq p q) [
      | inl same ↦
          let here : known_at (set mid q (Some beside)) q ≡ Some b =
          ap (known_at (set mid q (Some beside))) (sym same) ∙ now in
          elim (cases_lt q (length mid)) [
            | inl below ↦
                let held : Some beside ≡ Some b = sym (get_or-set_same mid q (Some beside) None below) ∙ here in
                inr (cc, subst (Contains places) (sym same) listed)
            | inr past ↦
                let long = length-set mid q (Some beside) in
                let nothing : None ≡ Some b =
                sym (get_or_past (set mid q (Some beside)) q None (omega (arith, past, long))) ∙ here in
                absurd cc
          ]
      | inr away ↦ learnt p b (sym (get_or-set_other mid q p (Some beside) None away) ∙ now)
    ]

-- nothing is known first
pub known-none : (board : List Cell) (known : List (Option Beside)) → known ≡ replicate 702 None → AreKnown board known
known-none board known is p beside e = elim (cases_lt p 702) [
  | inl below ↦
      let none : known_at known p ≡ None =
      ap (λ (k : List (Option Beside)). known_at k p) is ∙ get_or-replicate 702 p None None below in
      let same : None ≡ Some beside = sym none ∙ e in
      cc
  | inr past ↦
      let nothing : Option Beside = None in
      let long : length known ≡ 702 = ap length is ∙ length-replicate 702 nothing in
      let none : known_at known p ≡ None = get_or_past known p None (omega (arith, past, long)) in
      let same : None ≡ Some beside = sym none ∙ e in
      cc
]
