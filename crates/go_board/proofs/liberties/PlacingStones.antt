-- The pseudo-liberties when a stone is placed, as the code changes them.
use Rattle.std.proofs.Common.{◌≡◌, ℕ, ◌+◌, ◌-◌, ◌<◌, ◌≤◌, List, length, refl, sym, ◌∙◌, ap, arith}
use Rattle.std.proofs.Common.{false, cond, get_or-set_other, get_or-set_same}
use Rattle.std.specs.Prelude.{◌==◌, ◌&&◌, ◌↔◌, IsTrue, nat_lt}
use Rattle.std.proofs.lemmas.Bool.Decides.{nat_tests}
use Rattle.std.proofs.Math.ListN.{set, length-set}
use Rattle.go_base.specs.Point.{IsOn}
use Rattle.go_base.specs.Size.{most_size}
use Rattle.go_base.specs.declared.colours.Colour.{Colour}
use Rattle.go_base.specs.declared.colours.Colour.TheVariants as colour
use Rattle.go_board.specs.Board.{at, stone, IsStone}
use Rattle.go_board.specs.private.ChainId.{id_of, ids_beside, is_empty, is_stone, empty_beside, share}
use Rattle.go_board.specs.private.ChainId.{pseudo_liberties, ArePseudoLiberties, count_at, HasOtherLiberty, AreChains}
use Rattle.go_board.specs.private.Frame.{IsFramed}
use Rattle.go_board.specs.private.Steps.{AreLowered}
use Rattle.go_board.specs.declared.board.Cell.{Cell}
use Rattle.go_board.specs.declared.board.Cell.TheVariants.{Edge, Empty}
use Rattle.go_board.proofs.captures.CapturedStones.{in_list}
use Rattle.go_board.proofs.ids.Paths.{set-same, IsStone-point}
use Rattle.go_board.proofs.liberties.FillingPoints.{pseudo_liberties-filled}
use Rattle.go_board.proofs.liberties.PseudoLiberties.{other-count}
use Rattle.go_board.proofs.boards.Neighbours.{IsOn-inside}
use Rattle.go_board.proofs.liberties.Shares.{gains-share}

pub stone_in : (board : List Cell) (p : ℕ) → IsFramed board → IsStone (at board p) → p < 702
stone_in board p framed s = let below = in_list board p (IsStone-point (at board p) s) in
    let long = framed.length_is in
    omega (arith, below, long)

pub stone_on : (board : List Cell) (p : ℕ) → IsFramed board → IsStone (at board p) → IsOn most_size p
stone_on board p framed s = framed.inside p (IsStone-point (at board p) s)

lt-test : (a b c d : ℕ) → a ≡ c → b ≡ d → IsTrue (nat_lt a b) ↔ (c < d)
lt-test a b c d e f = (λ h. grind (arith, nat_tests), λ h. grind (arith, nat_tests))

-- the code's test of a chain's further liberty
pub has_other_liberty-test : (board : List Cell) (ids : List ℕ) (p q id beside counted : ℕ)
    → AreChains board ids → at board p ≡ Empty → IsStone (at board q) → id ≡ id_of ids q
    → beside ≡ ids_beside board ids id p → counted ≡ pseudo_liberties board ids id
    → IsTrue (nat_lt beside counted) ↔ HasOtherLiberty board q p
has_other_liberty-test board ids p q id beside counted chains empty s is b e =
    let k : ℕ = id_of ids q in
    let test =
    lt-test beside counted (ids_beside board ids k p) (pseudo_liberties board ids k)
    (b ∙ ap (λ (l : ℕ). ids_beside board ids l p) is)
    (e ∙ ap (pseudo_liberties board ids) is) in
    let known = other-count board ids p q chains.framed chains.ids empty s in
    (λ h. known.0 (test.0 h), λ h. test.1 (known.1 h))

-- an id has a pseudo-liberty for each of its stones beside an empty point
pub ids_beside-few : (board : List Cell) (ids : List ℕ) (k p : ℕ) → IsOn most_size p → at board p ≡ Empty
    → ids_beside board ids k p ≤ pseudo_liberties board ids k
ids_beside-few board ids k p on empty =
    let filled = pseudo_liberties-filled board ids ids k p Edge (IsOn-inside p on) empty refl (λ _ _. refl) in
    let none : share (set board p Edge) ids k p ≡ 0 =
    ap (λ (x : Cell). cond (is_stone x && (id_of ids p == k)) (empty_beside (set board p Edge) p) 0)
    (set-same board p Edge empty) in
    omega (arith, filled, none)

-- A stone with an id is placed on an empty point.
pub ArePseudoLiberties-placed : (board : List Cell) (ids c0 c4 new : List ℕ) (c : Colour) (p id more : ℕ)
    → IsOn most_size p
    → at board p ≡ Empty → id < 702 → length ids ≡ 702
    → ArePseudoLiberties board ids c0
    → AreLowered board ids c0 c4 p → more ≡ empty_beside (set board p (stone c)) p
    → new ≡ set c4 id (count_at c4 id + more)
    → ArePseudoLiberties (set board p (stone c)) (set ids p id) new
ArePseudoLiberties-placed board ids c0 c4 new c p id more on empty l long a four more_is made = record {
  length_is = ap length made ∙ length-set c4 id (count_at c4 id + more) ∙ four.length_is ∙ a.length_is;
  each = λ k below. sum_up _ _ _ _ _ _ _ (ids_beside-few board ids k p on empty)
      (gains-share (set board p (stone c)) (set ids p id) c4 new p id more k (c, set-same board p (stone c) empty)
      (sym (get_or-set_same ids p id 0 (let high = (IsOn-inside p on).high in omega (arith, high, long)))) more_is
      (omega (arith, l, four.length_is, a.length_is)) made)
      (four.each k below) (a.each k below)
      (pseudo_liberties-filled board ids (set ids p id) k p (stone c) (IsOn-inside p on) empty (no_empty c)
      (λ q o. get_or-set_other ids p q id 0 o));
}
  where
    no_empty : (c : Colour) → is_empty (stone c) ≡ false
    no_empty colour.Black = refl
    no_empty colour.White = refl

    sum_up : (n c4 c0 beside before own after : ℕ) → beside ≤ before → n ≡ c4 + own → c4 ≡ c0 - beside → c0 ≡ before
        → before + own ≡ after + beside → n ≡ after
    sum_up n c4 c0 beside before own after b x y z w = omega (arith, b, x, y, z, w)
