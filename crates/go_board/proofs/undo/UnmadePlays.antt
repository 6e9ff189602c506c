-- Taking a play back leaves the board before it.
use Rattle.std.proofs.Common.{◌≡◌, ℕ, ◌<◌, List, [], ◌∷◌, length, refl, sym, ◌∙◌, ap, subst, arith, cond}
use Rattle.std.proofs.Common.{get_or-set_same, get_or-set_other}
use Rattle.std.specs.Prelude.{◌≢◌}
use Rattle.std.specs.List.{range_with_len, filter, AllByRecursion}
use Rattle.std.proofs.Math.ListN.{set, length-set}
use Rattle.go_base.specs.Colour.{other}
use Rattle.go_base.specs.declared.colours.Colour.{Colour}
use Rattle.go_base.specs.declared.vertices.Vertex.TheVariants.{At}
use Rattle.go_board.specs.Board.{at, stone}
use Rattle.go_base.specs.Decide.{holds}
use Rattle.go_board.specs.Chain.{IsCaptured}
use Rattle.go_board.specs.decisions.Chain.{captured?}
use Rattle.go_board.specs.Play.{is_captured, play, captures}
use Rattle.go_board.specs.private.TakenStack.{captured_places, with_stones, AreLastPoints, IsRestored, IsAfterMove}
use Rattle.go_board.specs.private.TakenStack.{IsUnmade}
use Rattle.go_board.specs.declared.board.Cell.{Cell}
use Rattle.go_board.specs.declared.board.Cell.TheVariants.{Edge, Empty}
use Rattle.go_board.specs.declared.taken_stack.TakenStone.{TakenStone}
use Rattle.go_board.proofs.boards.Cells.{stone-point, empty-point}
use Rattle.go_board.proofs.captures.CapturedStones.{holds-yes, holds-no, in_list, at-play}
use Rattle.go_board.proofs.ko_rules.PlaysTakenBack.{taken-empty, taken-other, length-play}
use Rattle.go_board.proofs.undo.PoppedStones.{popped-all, popped-one, popped-rising, rising-picked}
use Rattle.go_board.proofs.undo.RestoredStones.{length-with_stones, filled-in, filled-out}
use Rattle.go_board.proofs.undo.BoardsBefore.{undo-board}
use Rattle.go_board.proofs.records.TakenStack.{places-count}

-- each place of the list is one whose stone is captured
pub all-captured : (board : List Cell) (c : Colour) (ps : List ℕ)
    → AllByRecursion (λ (p : ℕ). IsCaptured board c p) (filter (is_captured board c) ps)
all-captured board c [] = tt
all-captured board c (p ∷ ps) = by_test (captured? board c p) (all-captured board c ps)
  where
    by_test : (d : Dec (IsCaptured board c p))
        → AllByRecursion (λ (q : ℕ). IsCaptured board c q) (filter (is_captured board c) ps)
        → AllByRecursion (λ (q : ℕ). IsCaptured board c q)
        (cond (holds d) (p ∷ filter (is_captured board c) ps) (filter (is_captured board c) ps))
    by_test (yes h) rest = (h, rest)
    by_test (no k) rest = rest

-- the new stone is on its point
pub new-stone : (board : List Cell) (stones : List TakenStone) (c : Colour) (p number : ℕ)
    → IsAfterMove board stones (record { colour = c; vertex = At p }) number → at board p ≡ stone c
new-stone board stones c p number h =
    ap (λ (b : List Cell). at b p) h.board_is ∙ at-play h.before c p (empty-point h.before p h.empty)

pub last-points : (board cells : List Cell) (stones : List TakenStone) (c : Colour) (p number : ℕ)
    → IsAfterMove board stones (record { colour = c; vertex = At p }) number
    → cells ≡ set board p Empty → AreLastPoints cells stones number
last-points board cells stones c p number h is earlier q later e =
    let places = captured_places (set h.before p (stone c)) (other c) in
    let captured : IsCaptured (set h.before p (stone c)) (other c) q =
    popped-one number h.earlier earlier places later q h.numbers (sym h.stones_are ∙ e)
    (λ (r : ℕ). IsCaptured (set h.before p (stone c)) (other c) r)
    (all-captured (set h.before p (stone c)) (other c) (range_with_len 0 (length (set h.before p (stone c))))) in
    let another : q ≢ p = taken-other h.before c p q h.empty captured in
    let empty : at cells q ≡ Empty =
    ap (λ (b : List Cell). at b q) is ∙ get_or-set_other board p q Empty Edge another
    ∙ ap (λ (b : List Cell). at b q) h.board_is ∙ taken-empty h.before c p q captured in (
      empty,
      popped-rising number h.earlier earlier places later q h.numbers (sym h.stones_are ∙ e)
          (rising-picked (is_captured (set h.before p (stone c)) (other c)) 0 (length (set h.before p (stone c)))),
    )

-- what was restored is what the play took
record IsBackAgain (board new : List Cell) (stones left : List TakenStone) (c : Colour) (p number count : ℕ)
    (h : IsAfterMove board stones (record { colour = c; vertex = At p }) number) : Type 0 where
  board_is : new ≡ with_stones (set board p Empty) (stone (other c))
      (captured_places (set h.before p (stone c)) (other c))
  left_is : left ≡ h.earlier
  counted : count ≡ length (captured_places (set h.before p (stone c)) (other c))

back-again : (board new : List Cell) (stones left : List TakenStone) (c : Colour) (p number count : ℕ)
    (h : IsAfterMove board stones (record { colour = c; vertex = At p }) number)
    → IsRestored (set board p Empty) (stone (other c)) number stones left new count
    → IsBackAgain board new stones left c p number count h
back-again board new stones left c p number count h b =
    let places = captured_places (set h.before p (stone c)) (other c) in
    let both = popped-all number h.earlier left places b.places h.numbers (sym h.stones_are ∙ b.stones_are) b.all in
    record {
      board_is = b.board_is ∙ ap (λ (ps : List ℕ). with_stones (set board p Empty) (stone (other c)) ps) both.1;
      left_is = both.0;
      counted = b.counted ∙ ap length both.1;
    }

restored : (board new : List Cell) (stones left : List TakenStone) (c : Colour) (p number count : ℕ)
    (h : IsAfterMove board stones (record { colour = c; vertex = At p }) number)
    → IsBackAgain board new stones left c p number count h → new ≡ h.before
restored board new stones left c p number count h b = undo-board h.before new c p h.empty long gone again rest
  where
    cells : List Cell
    cells = set h.before p (stone c)

    places : List ℕ
    places = captured_places (set h.before p (stone c)) (other c)

    long-off : length (set board p Empty) ≡ length h.before
    long-off = length-set board p Empty ∙ ap length h.board_is ∙ length-play h.before c p

    long : length new ≡ length h.before
    long = ap length b.board_is ∙ length-with_stones (set board p Empty) (stone (other c)) places ∙ long-off

    in_board : (q : ℕ) → at h.before q ≢ Edge → q < length board
    in_board q point = let below = in_list h.before q point in
        let same = ap length h.board_is ∙ length-play h.before c p in
        omega (arith, below, same)

    kept : (q : ℕ) → ¬ IsCaptured (set h.before p (stone c)) (other c) q → at new q ≡ at (set board p Empty) q
    kept q free =
        ap (λ (b : List Cell). at b q) b.board_is
        ∙ filled-out (set board p Empty) (stone (other c)) (is_captured (set h.before p (stone c)) (other c)) 0
        (length (set h.before p (stone c))) q
        (holds-no (captured? (set h.before p (stone c)) (other c) q) free)

    gone : at new p ≡ Empty
    gone =
        kept p (λ h'. taken-other h.before c p p h.empty h' refl)
        ∙ get_or-set_same board p Empty Edge (in_board p (empty-point h.before p h.empty))

    again : (q : ℕ) → IsCaptured (set h.before p (stone c)) (other c) q → at new q ≡ stone (other c)
    again q captured =
        let inside : q < length (set h.before p (stone c)) =
        in_list (set h.before p (stone c)) q (λ e. stone-point (other c) (sym captured.0 ∙ e)) in
        ap (λ (b : List Cell). at b q) b.board_is
        ∙ filled-in (set board p Empty) (stone (other c)) (is_captured (set h.before p (stone c)) (other c)) 0
        (length (set h.before p (stone c))) q (omega arith) (omega (arith, inside))
        (let same = length-set h.before p (stone c) in omega (arith, inside, same, long-off))
        (holds-yes (captured? (set h.before p (stone c)) (other c) q) captured)

    rest : (q : ℕ) → q ≢ p → ¬ IsCaptured (set h.before p (stone c)) (other c) q → at new q ≡ at (play h.before c p) q
    rest q another free =
        kept q free ∙ get_or-set_other board p q Empty Edge another ∙ ap (λ (b : List Cell). at b q) h.board_is

pub IsUnmade-play : (board cells new : List Cell) (stones left : List TakenStone) (c : Colour) (p number count : ℕ)
    (this : Cell)
    → cells ≡ set board p Empty → this ≡ stone (other c) → IsRestored cells this number stones left new count
    → IsUnmade board stones (record { colour = c; vertex = At p }) number new left count
unfolding captures
IsUnmade-play board cells new stones left c p number count this is this_is b h =
    let restore : IsRestored (set board p Empty) (stone (other c)) number stones left new count =
    subst (λ (x : Cell). IsRestored (set board p Empty) x number stones left new count) this_is
    (subst (λ (b : List Cell). IsRestored b this number stones left new count) is b) in
    let back = back-again board new stones left c p number count h restore in (
      restored board new stones left c p number count h back,
      back.left_is,
      back.counted
          ∙ places-count (set h.before p (stone c)) (other c),
    )
