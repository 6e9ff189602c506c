-- Each turn of a playout is a candidate, or a pass where there is none.
use Rattle.std.proofs.Common.{◌≡◌, ℕ, zero, suc, ◌+◌, ◌*◌, ◌/◌, ◌^◌, ◌-◌, ◌<◌, ◌≤◌, List, [], ◌∷◌, length, get_or}
use Rattle.std.proofs.Common.{Contains, Some, refl, sym, ◌∙◌, ap, subst, arith, inl, inr}
use Rattle.std.specs.Prelude.{slice_get}
use Rattle.std.specs.List.{swap}
use Rattle.std.proofs.lemmas.Bool.{cases_eq}
use Rattle.std.proofs.lemmas.List.{get_or_default}
use Rattle.std.proofs.lemmas.Nat.{row_fits}
use Rattle.std.proofs.lemmas.List.Edits.{length-swap, swapped_from_swap}
use Rattle.std.proofs.lemmas.List.Sums.{sum_by-cons}
use Rattle.std.proofs.lemmas.Option.{get_or_from_slice_get}
use Rattle.go_base.specs.declared.colours.Colour.{Colour}
use Rattle.go_base.specs.declared.vertices.Vertex.{Vertex}
use Rattle.go_base.specs.declared.vertices.Vertex.TheVariants.{Pass}
use Rattle.go_board.specs.Candidates.{IsCandidate}
use Rattle.go_board.specs.Game.{GameRecord, IsGame, IsLegal, board_of, with_move}
use Rattle.go_board.specs.declared.board.Cell.{Cell}
use Rattle.go_board.specs.PlayoutLaws.{IsRightTurn, AreRightTurns, none, turn, PlayoutsTakeRightTurns}
use Rattle.go_board.specs.Playouts.{drawn_place, Draws, passes, plays, puts_aside, IsPlayout, ends, goes_on}
use Rattle.go_board.specs.private.Playouts.{same_place, times, IsOrderOf}
use Rattle.go_board.proofs.drawing.Orders.{empty_at-one, same_place-none, order-first, order-swap, order-played}
use Rattle.go_board.proofs.drawing.Turns.{room-left}
use Rattle.go_board.proofs.records.EveryGame.{board-with_move}
use Rattle.go_board.proofs.records.Moves.{IsGame-with_move}

-- what is there once or more often is there
contains-counted : (xs : List ℕ) (p : ℕ) → 1 ≤ times xs p → Contains xs p
contains-counted [] p least = absurd (omega (arith, least))
contains-counted (x ∷ xs) p least = elim (cases_eq x p) [
  | inl same ↦ (zero, omega arith, same)
  | inr away ↦
      let apart = same_place-none p x away in
      let h = contains-counted xs p (omega (arith, least, apart, sum_by-cons (same_place p) x xs)) in
      let below = h.1 in
      (suc h.0, omega (arith, below), h.2)
]

-- the points from the place n of the order on are no candidates
AreRefused : GameRecord → Colour → ℕ → List ℕ → Type 0
AreRefused game c n order = (k : ℕ) → n ≤ k → k < length order → ¬ IsCandidate game c (get_or order k 0)

-- a word draws below n
drawn-below : (n word : ℕ) → 0 < n → word < 2 ^ 64 → drawn_place n word < n
drawn-below n word some fits =
    let upper : word / 2 ^ 32 < 2 ^ 32 = omega (arith, fits) in
    let product = row_fits (word / 2 ^ 32) n (2 ^ 32) n upper (omega arith) in
    share (word / 2 ^ 32 * n) n product some
  where
    share : (product n : ℕ) → product + n ≤ 2 ^ 32 * n → 0 < n → product / 2 ^ 32 < n
    share product n h some = omega (arith, h, some)

more-refused : (game : GameRecord) (c : Colour) (n i p : ℕ) (order : List ℕ) → 0 < n → n ≤ length order → i < n
    → slice_get order i ≡ Some p → ¬ IsCandidate game c p → AreRefused game c n order
    → AreRefused game c (n - 1) (swap order i (n - 1))
unfolding AreRefused
more-refused game c n i p order some few below drawn no_candidate refused k from in_it candidate =
    let long = length-swap order i (n - 1) in
    let s = swapped_from_swap order (swap order i (n - 1)) i (n - 1) 0 (omega (arith, below, few)) (omega (arith, some, few))
    refl in
    elim (cases_eq k (n - 1)) [
      | inl last ↦ no_candidate (subst (λ (q : ℕ). IsCandidate game c q)
          (ap (λ (j : ℕ). get_or (swap order i (n - 1)) j 0) last ∙ s.1
          ∙ get_or_from_slice_get order i p 0 drawn) candidate)
      | inr away ↦ refused k (omega (arith, from, away)) (omega (arith, in_it, long))
          (subst (λ (q : ℕ). IsCandidate game c q)
          ((s.2) k (λ e. let far : n ≤ k = omega (arith, from, away) in omega (arith, e, far, below)) away)
          candidate)
    ]

refused-all : (game : GameRecord) (c : Colour) (order : List ℕ) → IsOrderOf (board_of game) order → AreRefused game c 0 order
    → (p : ℕ) → ¬ IsCandidate game c p
unfolding AreRefused
refused-all game c order o refused p candidate =
    let one = empty_at-one (board_of game) p candidate.legal.empty in
    let is = o p in
    let h = contains-counted order p (omega (arith, one, is)) in
    refused h.0 (omega arith) h.1
    (subst (λ (q : ℕ). IsCandidate game c q) (sym (get_or_default order h.0 0 p h.1 ∙ h.2)) candidate)

-- what a turn keeps
record IsKeptTurn (game : GameRecord) (c : Colour) (v : Vertex) (left : List ℕ) : Type 0 where
  right : IsRightTurn game c v
  legal : IsLegal game c v
  order : IsOrderOf (board_of (with_move game c v)) left

right-turn : {game : GameRecord} {c : Colour} {n : ℕ} {order words left : List ℕ} {v : Vertex} → n ≤ length order
    → IsOrderOf (board_of game) order → AreRefused game c n order → Draws game c n order words v left
    → IsKeptTurn game c v left
right-turn {game} {c} {order = order} few o refused passes = record {
  right = refused-all game c order o refused;
  legal = tt;
  order = subst (λ (cells : List Cell). IsOrderOf cells order) (sym (board-with_move game c Pass)) o;
}
right-turn {game} {c} {n} {order} few o refused (plays {word = word} {p = p} {taken = taken} some drawn candidate are) =
    record {
      right = candidate;
      legal = candidate.legal;
      order = order-played game c p (drawn_place n word) order taken candidate.legal o drawn.1 are;
    }
right-turn {game} {c} {n} {order} few o refused (puts_aside {word = word} p some drawn no_candidate d) =
    let i : ℕ = drawn_place n word in
    let below = drawn-below n word some drawn.0 in
    let long = length-swap order i (n - 1) in
    right-turn (omega (arith, few, long, some))
    (order-swap (board_of game) order i (n - 1) (omega (arith, below, few)) (omega (arith, some, few)) o)
    (more-refused game c n i p order some few below drawn.1 no_candidate refused) d

none-refused : (game : GameRecord) (c : Colour) (order : List ℕ) → AreRefused game c (length order) order
unfolding AreRefused
none-refused game c order k from in_it = absurd (omega (arith, from, in_it))

right-turns : {game : GameRecord} {c : Colour} {order words : List ℕ} {limit : ℕ} {after : GameRecord} → IsGame game
    → IsOrderOf (board_of game) order → IsPlayout game c order limit words after → AreRightTurns game c limit after
right-turns g o (ends over) = none over
right-turns {game} {c} {order} {limit = limit} g o (goes_on v left on drawn rest) =
    let kept = right-turn (omega arith) o (none-refused game c order) drawn in
    turn v on kept.right
    (right-turns (IsGame-with_move game c v g (room-left game limit on) kept.legal) kept.order rest)

pub right-playouts : PlayoutsTakeRightTurns
right-playouts game c order limit words after g empty p = right-turns g (order-first game order empty) p
