-- A list of points as it grows in a pass over a board.
use Rattle.std.specs.Prelude.{ℕ, ◌<◌, ◌≤◌, ◌↔◌, List, Contains, length}
use Rattle.std.specs.List.{AllPairs}
use Rattle.go_board.specs.private.Columns.{points_before}

-- The list has each place before a given one of which P holds, and no other, in order. They are at most as many as the
-- points of the largest board there. The given place is past the lowest row of edge.
pub record AreListedBefore (P : ℕ → Type 0) (n : ℕ) (points : List ℕ) : Type 0 where
  pub each : (p : ℕ) → Contains points p ↔ ((p < n) × P p)
  pub in_order : AllPairs (λ p q. p < q) points
  pub few : length points ≤ points_before n
  pub begun : 26 ≤ n
