-- Plays of a playout.
use Rattle.std.proofs.Common.{◌≡◌, ℕ, ◌+◌, ◌-◌, ◌<◌, ◌≤◌, List, sym, ◌∙◌, ap, subst, arith, inl, inr, Bool, true, false}
use Rattle.std.proofs.Common.{refl, cond}
use Rattle.std.proofs.lemmas.Bool.{false≢true}
use Rattle.std.specs.Prelude.{◌⊎◌, ◌↔◌, IsTrue, nat_lt, nat_eq, not}
use Rattle.std.proofs.Math.ListN.{set}
use Rattle.go_base.specs.Colour.{other}
use Rattle.go_base.specs.Point.{IsOn}
use Rattle.go_base.specs.Size.{most_size}
use Rattle.go_base.specs.declared.colours.Colour.{Colour}
use Rattle.go_board.specs.Board.{at, stone, IsStone}
use Rattle.go_board.specs.Play.{play}
use Rattle.go_board.specs.Chain.{IsFree, IsCaptured, HasBeside}
use Rattle.go_board.specs.private.ChainId.{id_of, count_at, AreChains, AreFree, HasOtherLiberty, pseudo_liberties}
use Rattle.go_board.specs.private.ChainId.{is_empty, empty_at, empty_beside}
use Rattle.go_board.specs.private.Legal.{IsInAtari, TakesAny, ReachesLiberty}
use Rattle.go_board.specs.private.NamedIds.{named_beside, AreCapturedBeside, FreesPlay, FreesAny}
use Rattle.go_board.specs.private.Stones.{AreCounted}
use Rattle.go_board.specs.declared.board.Cell.{Cell}
use Rattle.go_board.specs.declared.board.Cell.TheVariants.{Edge, Empty, Black, White}
use Rattle.go_board.specs.declared.stones.Stones.TheInside.{Inside}
use Rattle.go_board.proofs.boards.Neighbours.{IsOn-inside, all_beside, left_of, under_of}
use Rattle.go_board.proofs.captures.FreeStones.{IsFree-play}
use Rattle.go_board.proofs.captures.MakingPlays.{to_code, is_captured-code}
use Rattle.go_board.proofs.ids.Paths.{Joined-set}
use Rattle.go_board.proofs.liberties.PlacingStones.{has_other_liberty-test}
use Rattle.go_board.proofs.liberties.PseudoLiberties.{captured-other, captured-beside}
use Rattle.go_board.proofs.liberties.NamedIds.{named-beside, count-other}

-- ---- the code's tests

-- the number of a stone's id
pub stone-count : (f : Inside) (q id counted : ℕ) → AreCounted f → IsStone (at f.board q) → id ≡ id_of f.ids q
    → id < 702 → counted ≡ count_at f.counts id → counted ≡ pseudo_liberties f.board f.ids id
stone-count f q id counted kept s is below e =
    e ∙ sym (count-other f.counts id (λ zero. kept.named q s (sym is ∙ zero))) ∙ kept.counts.each id below

pub other_liberty-test : (f : Inside) (p q id beside counted : ℕ) → AreCounted f → AreChains f.board f.ids
    → at f.board p ≡ Empty → IsStone (at f.board q) → id ≡ id_of f.ids q → id < 702
    → beside ≡ named_beside f.ids id p → counted ≡ count_at f.counts id
    → IsTrue (nat_lt beside counted) ↔ HasOtherLiberty f.board q p
other_liberty-test f p q id beside counted kept chains empty s is below b e =
    has_other_liberty-test f.board f.ids p q id beside counted chains empty s is
    (b ∙ named-beside f.board f.ids kept.blank id p (λ zero. kept.named q s (sym is ∙ zero)))
    (stone-count f q id counted kept s is below e)

pub captured-test : (f : Inside) (c : Colour) (q id counted : ℕ) → AreCounted f → AreChains f.board f.ids
    → at f.board q ≡ stone c → id ≡ id_of f.ids q → id < 702 → counted ≡ count_at f.counts id
    → IsTrue (nat_eq counted 0) ↔ IsCaptured f.board c q
captured-test f c q id counted kept chains held is below e =
    is_captured-code f.board f.ids c q id counted chains held is
    (stone-count f q id counted kept (c, held) is below e)

-- ---- empty neighbours

empty-from_test : (x : Cell) → is_empty x ≡ true → x ≡ Empty
empty-from_test Empty e = refl
empty-from_test Edge e = cc
empty-from_test Black e = cc
empty-from_test White e = cc

-- what a count of empty neighbours tells
pub empty-beside : (board : List Cell) (p : ℕ) → 27 ≤ p → (0 < empty_beside board p) ↔ HasBeside board p Empty
empty-beside board p low = (
  (λ h. by_tests _ _ _ _ refl refl refl refl h),
  (λ b. all_beside (λ q. at board q ≡ Empty → 0 < empty_beside board p) p
      (λ e. let one = is_one (p + 1) e in omega (arith, one)) (λ e. let one = is_one (p - 1) e in omega (arith, one))
      (λ e. let one = is_one (p + 26) e in omega (arith, one))
      (λ e. let one = is_one (p - 26) e in omega (arith, one))
      b.place b.neighbours b.holds),
)
  where
    is_one : (q : ℕ) → at board q ≡ Empty → empty_at board q ≡ 1
    is_one q e = ap (λ (x : Cell). cond {A = ℕ} (is_empty x) 1 0) e

    by_tests : (a b c d : Bool) → is_empty (at board (p + 1)) ≡ a → is_empty (at board (p - 1)) ≡ b
        → is_empty (at board (p + 26)) ≡ c → is_empty (at board (p - 26)) ≡ d
        → 0 < cond {A = ℕ} a 1 0 + cond b 1 0 + cond c 1 0 + cond d 1 0 → HasBeside board p Empty
    by_tests true b c d ea eb ec ed h =
        record { place = p + 1; neighbours = inl refl; holds = empty-from_test _ ea }
    by_tests false true c d ea eb ec ed h =
        record { place = p - 1; neighbours = left_of p low; holds = empty-from_test _ eb }
    by_tests false false true d ea eb ec ed h =
        record { place = p + 26; neighbours = inr (inr (inl refl)); holds = empty-from_test _ ec }
    by_tests false false false true ea eb ec ed h =
        record { place = p - 26; neighbours = under_of p low; holds = empty-from_test _ ed }
    by_tests false false false false ea eb ec ed h = absurd (omega (arith, h))

-- ---- a play is legal by an empty neighbour or by a stone beside it

pub free-any : (board : List Cell) (c : Colour) (p : ℕ) → at board p ≡ Empty → AreFree board
    → IsFree (play board c p) p ↔ (HasBeside board p Empty ⊎ FreesAny board c p)
free-any board c p empty free = (
  (λ h. elim ((IsFree-play board c p empty free).0 h) [
    | inl b ↦ inl b
    | inr (inl t) ↦ inr (record { place = t.place; neighbours = t.neighbours; frees = inl t.in_atari })
    | inr (inr r) ↦ inr (record { place = r.place; neighbours = r.neighbours; frees = inr r.further })
  ]),
  (λ h. (IsFree-play board c p empty free).1 (elim h [ inl b ↦ inl b | inr f ↦ inr (by_side f f.frees) ])),
)
  where
    by_side : (f : FreesAny board c p) → FreesPlay board c p f.place
        → TakesAny board (other c) p ⊎ ReachesLiberty board c p
    by_side f (inl a) = inl (record { place = f.place; neighbours = f.neighbours; in_atari = a })
    by_side f (inr l) = inr (record { place = f.place; neighbours = f.neighbours; further = l })

-- with an empty neighbour
pub free-by_count : (board cells : List Cell) (c : Colour) (p count : ℕ) → IsOn most_size p → at board p ≡ Empty
    → AreFree board → cells ≡ board → count ≡ empty_beside cells p → 0 < count → IsFree (play board c p) p
free-by_count board cells c p count on empty free e is some =
    (free-any board c p empty free).1 (inl ((empty-beside board p (IsOn-inside p on).low).0
    (subst (λ (n : ℕ). 0 < n) (is ∙ ap (λ (b : List Cell). empty_beside b p) e) some)))

-- without one
pub free-by_test : (board cells others : List Cell) (c : Colour) (p count : ℕ) (test : Bool) → IsOn most_size p
    → at board p ≡ Empty → AreFree board → cells ≡ board → others ≡ board → count ≡ empty_beside cells p → count ≤ 0
    → IsTrue test ↔ FreesAny others c p → IsTrue test ↔ IsFree (play board c p) p
free-by_test board cells others c p count test on empty free e o is without decides =
    let known = free-any board c p empty free in
    let here : IsTrue test ↔ FreesAny board c p =
    subst (λ (b : List Cell). IsTrue test ↔ FreesAny b c p) o decides in (
      (λ h. known.1 (inr (here.0 h))),
      (λ h. here.1 (elim (known.0 h) [
        | inl b ↦
            let some = (empty-beside board p (IsOn-inside p on).low).1 b in
            let same = is ∙ ap (λ (b : List Cell). empty_beside b p) e in
            absurd (omega (arith, some, same, without))
        | inr f ↦ f
      ])),
    )

-- a stone of the colour is in atari where its chain has no other liberty
pub atari-test : (board cells : List Cell) (c : Colour) (p q : ℕ) (test : Bool) → cells ≡ board
    → at board q ≡ stone c → (IsStone (at cells q) → IsTrue test ↔ HasOtherLiberty cells q p)
    → IsTrue (not test) ↔ IsInAtari board c p q
atari-test board cells c p q test e held decides =
    let known =
    subst (λ (b : List Cell). IsStone (at b q) → IsTrue test ↔ HasOtherLiberty b q p) e decides (c, held) in (
      (λ h. (held, λ has. not_both test h (known.1 has))),
      (λ a. not_so test (λ h. a.1 (known.0 h))),
    )
  where
    not_both : (b : Bool) → IsTrue (not b) → IsTrue b → ⊥
    not_both true h k = false≢true h
    not_both false h k = false≢true k

    not_so : (b : Bool) → (IsTrue b → ⊥) → IsTrue (not b)
    not_so true h = absurd (h refl)
    not_so false h = refl

-- ---- captured chains are beside the point

pub all-captured_beside : (board cells : List Cell) (c theirs : Colour) (p : ℕ) → at board p ≡ Empty → AreFree board
    → cells ≡ set board p (stone c) → theirs ≡ other c → AreCapturedBeside cells theirs p
all-captured_beside board cells c theirs p empty free e f =
    to_code board cells c theirs p e f (λ b t. AreCapturedBeside b t p)
    (λ q h.
    let taken = captured-beside board c p q empty free h in
    let held = ((captured-other board c p q empty).0 h).0 in
    record {
      place = taken.place;
      neighbours = taken.neighbours;
      joined = Joined-set board p (stone c) empty (other c, held) taken.joined;
      captured = taken.captured;
    })
