-- When a play brings back the board before the previous move.
use Rattle.std.proofs.Common.{◌≡◌, ℕ, List, length, refl, sym, ◌∙◌, ap, subst, inl, inr, Bool, cond, get_or-set_other}
use Rattle.std.specs.Prelude.{◌≢◌}
use Rattle.std.proofs.lemmas.List.{ext_get_or}
use Rattle.std.proofs.lemmas.List.FromFn.{length-map-range_with_len}
use Rattle.std.proofs.Math.ListN.{set, length-set}
use Rattle.go_base.specs.Colour.{other}
use Rattle.go_base.specs.declared.colours.Colour.{Colour}
use Rattle.go_base.specs.declared.colours.Colour.TheVariants as colour
use Rattle.go_board.specs.Board.{at, stone}
use Rattle.go_board.specs.private.Ko.{TakesOnly}
use Rattle.go_board.specs.Chain.{IsCaptured}
use Rattle.go_board.specs.decisions.Chain.{captured?}
use Rattle.go_board.specs.Play.{left_at, without_captured, play}
use Rattle.go_board.specs.declared.board.Cell.{Cell}
use Rattle.go_board.specs.declared.board.Cell.TheVariants.{Edge, Empty}
use Rattle.go_board.proofs.boards.Cells.{stone-filled, stone-differs, empty-point}
use Rattle.go_board.proofs.captures.CapturedStones.{holds-yes, holds-no, at-without_captured, at-play}
use Rattle.go_board.proofs.ids.Paths.{set-same}
use Rattle.std.proofs.lemmas.Bool.{cases_eq}

-- what a place holds after a play: nothing where its stone was taken, else what the new stone left there
pub data IsAfter (board : List Cell) (c : Colour) (p q : ℕ) : Type 0 where
  taken : IsCaptured (set board p (stone c)) (other c) q → at (play board c p) q ≡ Empty → IsAfter board c p q
  left : ¬ IsCaptured (set board p (stone c)) (other c) q → at (play board c p) q ≡ at (set board p (stone c)) q
      → IsAfter board c p q

pub after-play : (board : List Cell) (c : Colour) (p q : ℕ) → IsAfter board c p q
unfolding play
after-play board c p q = by_case (captured? cells (other c) q)
  where
    cells : List Cell
    cells = set board p (stone c)

    by_case : Dec (IsCaptured (set board p (stone c)) (other c) q) → IsAfter board c p q
    by_case (yes h) = taken h (at-without_captured (set board p (stone c)) (other c) q
        ∙ ap (λ (b : Bool). cond b Empty (at (set board p (stone c)) q))
        (holds-yes (captured? (set board p (stone c)) (other c) q) h))
    by_case (no k) = left k (at-without_captured (set board p (stone c)) (other c) q
        ∙ ap (λ (b : Bool). cond b Empty (at (set board p (stone c)) q))
        (holds-no (captured? (set board p (stone c)) (other c) q) k))

-- so what follows from each of the two holds
pub by_play : {B : Type 0} (board : List Cell) (c : Colour) (p q : ℕ)
    → (IsCaptured (set board p (stone c)) (other c) q → at (play board c p) q ≡ Empty → B)
    → (¬ IsCaptured (set board p (stone c)) (other c) q → at (play board c p) q ≡ at (set board p (stone c)) q → B) → B
by_play {B = B} board c p q gone kept = by_case (after-play board c p q)
  where
    by_case : IsAfter board c p q → B
    by_case (taken h e) = gone h e
    by_case (left k e) = kept k e

-- nothing is left where a stone was taken
pub taken-empty : (board : List Cell) (c : Colour) (p q : ℕ) → IsCaptured (set board p (stone c)) (other c) q
    → at (play board c p) q ≡ Empty
taken-empty board c p q h = by_play board c p q (λ k e. e) (λ k e. absurd (k h))

pub length-play : (board : List Cell) (c : Colour) (p : ℕ) → length (play board c p) ≡ length board
unfolding play without_captured
length-play board c p =
    length-map-range_with_len (left_at (set board p (stone c)) (other c)) 0 (length (set board p (stone c)))
    ∙ length-set board p (stone c)

pub other-other : (c d : Colour) → stone c ≡ stone (other d) → c ≡ other d
other-other colour.Black colour.Black e = cc
other-other colour.Black colour.White e = cc
other-other colour.White colour.Black e = cc
other-other colour.White colour.White e = cc

pub other-twice : (c d : Colour) → c ≡ other d → stone d ≡ stone (other c)
other-twice colour.Black colour.Black e = cc
other-twice colour.Black colour.White e = cc
other-twice colour.White colour.Black e = cc
other-twice colour.White colour.White e = cc

-- what is empty but for the point of a play stays empty
pub empty-after : (board : List Cell) (c : Colour) (p q : ℕ) → q ≢ p → at board q ≡ Empty
    → at (play board c p) q ≡ Empty
empty-after board c p q another empty =
    by_play board c p q (λ h e. e) (λ k e. e ∙ get_or-set_other board p q (stone c) Edge another ∙ empty)

-- a stone that was there and is gone was taken
taken-from_gone : (board : List Cell) (c : Colour) (p q : ℕ) → q ≢ p → at board q ≢ Empty
    → at (play board c p) q ≡ Empty
    → IsCaptured (set board p (stone c)) (other c) q
taken-from_gone board c p q another held gone =
    by_play board c p q (λ h e. h)
    (λ k e. absurd (held (sym (get_or-set_other board p q (stone c) Edge another) ∙ sym e ∙ gone)))

-- a stone that is taken was there, and isn't the new one
pub taken-other : (board : List Cell) (c : Colour) (p q : ℕ) → at board p ≡ Empty
    → IsCaptured (set board p (stone c)) (other c) q → q ≢ p
taken-other board c p q empty h is =
    stone-differs c (sym (set-same board p (stone c) empty) ∙ ap (λ (r : ℕ). at (set board p (stone c)) r) (sym is)
    ∙ h.0)

pub taken-held : (board : List Cell) (c : Colour) (p q : ℕ) → at board p ≡ Empty
    → IsCaptured (set board p (stone c)) (other c) q → at board q ≡ stone (other c)
taken-held board c p q empty h = sym (get_or-set_other board p q (stone c) Edge (taken-other board c p q empty h)) ∙ h.0

-- ---- two plays, one after the other: c at p, and then d at q

-- the second play brings the board back only where each takes just the stone of the other
pub record IsBack (board next : List Cell) (c d : Colour) (p q : ℕ) : Type 0 where
  pub colours : d ≡ other c
  pub first : TakesOnly board c p q
  pub second : TakesOnly next d q p

pub IsBack-from : (board next : List Cell) (c d : Colour) (p q : ℕ) → at board p ≡ Empty → next ≡ play board c p
    → at next q ≡ Empty → play next d q ≡ board → IsBack board next c d p q
IsBack-from board next c d p q empty is free back = record {
  colours = other-other d c (sym was ∙ taken-held board c p q empty first_took);
  first =
      λ r. (
        (λ h. elim (cases_eq r q) [ inl e ↦ e | inr another ↦ absurd (first_no_more r another h) ]),
        (λ e. subst (IsCaptured (set board p (stone c)) (other c)) (sym e) first_took),
      );
  second =
      λ r. (
        (λ h. elim (cases_eq r p) [ inl e ↦ e | inr another ↦ absurd (second_no_more r another h) ]),
        (λ e. subst (IsCaptured (set next q (stone d)) (other d)) (sym e) second_took),
      );
}
  where
    put_first : at next p ≡ stone c
    put_first = ap (λ (b : List Cell). at b p) is ∙ at-play board c p (empty-point board p empty)

    apart : p ≢ q
    apart e = stone-filled c (sym put_first ∙ ap (λ (r : ℕ). at next r) e ∙ free)

    apart_back : q ≢ p
    apart_back e = apart (sym e)

    -- the stone of the second play stood there before
    was : at board q ≡ stone d
    was = ap (λ (b : List Cell). at b q) (sym back) ∙ at-play next d q (empty-point next q free)

    first_took : IsCaptured (set board p (stone c)) (other c) q
    first_took =
        taken-from_gone board c p q apart_back (λ e. stone-filled d (sym was ∙ e))
        (ap (λ (b : List Cell). at b q) (sym is) ∙ free)

    second_took : IsCaptured (set next q (stone d)) (other d) p
    second_took =
        taken-from_gone next d q p apart (λ e. stone-filled c (sym put_first ∙ e))
        (ap (λ (b : List Cell). at b p) back ∙ empty)

    -- a further stone that the first play took would be missing
    first_no_more : (r : ℕ) → r ≢ q → IsCaptured (set board p (stone c)) (other c) r → ⊥
    first_no_more r another h =
        let gone : at next r ≡ Empty = ap (λ (b : List Cell). at b r) is ∙ taken-empty board c p r h in
        stone-filled (other c) (sym (taken-held board c p r empty h) ∙ ap (λ (b : List Cell). at b r) (sym back)
        ∙ empty-after next d q r another gone)

    -- a further stone that the second play took was no new one
    second_no_more : (r : ℕ) → r ≢ p → IsCaptured (set next q (stone d)) (other d) r → ⊥
    second_no_more r another h =
        let gone : at board r ≡ Empty = ap (λ (b : List Cell). at b r) (sym back) ∙ taken-empty next d q r h in
        stone-filled (other d) (sym (taken-held next d q r free h) ∙ ap (λ (b : List Cell). at b r) is
        ∙ empty-after board c p r another gone)

pub back-from : (board next : List Cell) (c d : Colour) (p q : ℕ) → at board p ≡ Empty → next ≡ play board c p
    → at next q ≡ Empty → IsBack board next c d p q → play next d q ≡ board
back-from board next c d p q empty is free b =
    ext_get_or Edge (play next d q) board (length-play next d q ∙ ap length is ∙ length-play board c p) (λ r _. each r)
  where
    first_took : IsCaptured (set board p (stone c)) (other c) q
    first_took = (b.first q).1 refl

    second_took : IsCaptured (set next q (stone d)) (other d) p
    second_took = (b.second p).1 refl

    each : (r : ℕ) → at (play next d q) r ≡ at board r
    each r = elim (cases_eq r q) [
      | inl e ↦
          ap (λ (k : ℕ). at (play next d q) k) e ∙ at-play next d q (empty-point next q free) ∙ ap stone b.colours
          ∙ sym (taken-held board c p q empty first_took) ∙ ap (λ (k : ℕ). at board k) (sym e)
      | inr not_q ↦ elim (cases_eq r p) [
        | inl e ↦ ap (λ (k : ℕ). at (play next d q) k) e ∙ taken-empty next d q p second_took ∙ sym empty
            ∙ ap (λ (k : ℕ). at board k) (sym e)
        | inr not_p ↦
            second_left not_p (after-play next d q r) ∙ get_or-set_other next q r (stone d) Edge not_q
            ∙ ap (λ (x : List Cell). at x r) is ∙ first_left not_q (after-play board c p r)
            ∙ get_or-set_other board p r (stone c) Edge not_p
      ]
    ]
      where
        second_left : r ≢ p → IsAfter next d q r → at (play next d q) r ≡ at (set next q (stone d)) r
        second_left not_p (taken h e) = absurd (not_p ((b.second r).0 h))
        second_left not_p (left k e) = e

        first_left : r ≢ q → IsAfter board c p r → at (play board c p) r ≡ at (set board p (stone c)) r
        first_left not_q (taken h e) = absurd (not_q ((b.first r).0 h))
        first_left not_q (left k e) = e
