-- Chains and regions as the smallest sets that have with each of their points the neighbours that hold the same.
use Rattle.std.proofs.Common.{◌≡◌, ℕ, List, refl, sym, ◌∙◌, Bool, true}
use Rattle.std.specs.Prelude.{◌≢◌}
use Rattle.go_base.specs.Decide.{holds}
use Rattle.go_base.specs.declared.colours.Colour.{Colour}
use Rattle.go_board.specs.Board.{at, stone}
use Rattle.go_board.specs.Chain.{Joined, itself, by_way_of, Touches, IsCaptured}
use Rattle.go_board.specs.Laws.{IsClosed, IsAwayFrom}
use Rattle.go_board.specs.decisions.Chain.{joined?}
use Rattle.go_board.specs.declared.board.Cell.{Cell}
use Rattle.go_board.specs.declared.board.Cell.TheVariants.{Edge, Empty}
use Rattle.go_board.proofs.boards.Cells.{stone-point}
use Rattle.go_board.proofs.captures.CapturedStones.{holds-yes, holds-true}
use Rattle.go_board.proofs.ids.Paths.{Joined-then, Joined-same}

-- a path from a point of the set stays in the set
stays : (board : List Cell) (p q r : ℕ) (set : ℕ → Bool) → IsClosed board p set → set q ≡ true
    → at board q ≡ at board p → Joined board q r → set r ≡ true
stays board p q r set closed in_set same (itself point) = in_set
stays board p q r set closed in_set same (by_way_of s point next like rest) =
    stays board p s r set closed (closed.next q s in_set next (like ∙ same)) (like ∙ same) rest

pub joined-in : (board : List Cell) (p q : ℕ) (set : ℕ → Bool) → Joined board p q → IsClosed board p set → set q ≡ true
joined-in board p q set path closed = stays board p p q set closed closed.start refl path

-- the points that are joined to p
joined_set : List Cell → ℕ → ℕ → Bool
joined_set board p q = holds (joined? board p q)

joined-closed : (board : List Cell) (p : ℕ) → at board p ≢ Edge → IsClosed board p (joined_set board p)
unfolding joined_set
joined-closed board p point = record {
  start = holds-yes (joined? board p p) (itself point);
  next = λ q r in_set beside same.
      let path = holds-true (joined? board p q) in_set in
      let like = Joined-same path in
      holds-yes (joined? board p r)
      (Joined-then path
      (by_way_of r (λ e. point (sym like ∙ e)) beside (same ∙ sym like) (itself (λ e. point (sym same ∙ e)))));
}

pub in-joined : (board : List Cell) (p q : ℕ) → at board p ≢ Edge
    → ((set : ℕ → Bool) → IsClosed board p set → set q ≡ true) → Joined board p q
unfolding joined_set
in-joined board p q point each =
    holds-true (joined? board p q) (each (joined_set board p) (joined-closed board p point))

pub away-from : (board : List Cell) (p : ℕ) (this : Cell) → at board p ≢ Edge → ¬ Touches board p this
    → IsAwayFrom board p this
unfolding joined_set
away-from board p this point none = record {
  set = joined_set board p;
  closed = joined-closed board p point;
  away = λ q r in_set next same. none (record {
    point = q;
    joined = holds-true (joined? board p q) in_set;
    beside = record { place = r; neighbours = next; holds = same };
  });
}

pub untouched : (board : List Cell) (p : ℕ) (this : Cell) → IsAwayFrom board p this → ¬ Touches board p this
untouched board p this away touch =
    away.away touch.point touch.beside.place (joined-in board p touch.point away.set touch.joined away.closed)
    touch.beside.neighbours touch.beside.holds

pub captured-shut : (board : List Cell) (c : Colour) (p : ℕ) → IsCaptured board c p
    → (at board p ≡ stone c) × IsAwayFrom board p Empty
captured-shut board c p h = (h.0, away-from board p Empty (λ e. stone-point c (sym h.0 ∙ e)) h.1)

pub shut-captured : (board : List Cell) (c : Colour) (p : ℕ) → (at board p ≡ stone c) × IsAwayFrom board p Empty
    → IsCaptured board c p
shut-captured board c p h = (h.0, untouched board p Empty h.1)
