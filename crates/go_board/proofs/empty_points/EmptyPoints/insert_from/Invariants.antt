use Rattle.std.proofs.Common.{ℕ, ◌<◌, ◌≤◌, length}
use Rattle.std.specs.Prelude.{slice_index}
use Rattle.go_board.proofs.empty_points.EmptyPoints.insert_from.Given as goal

abbrev pub invariant-loop-index : goal.invariant-loop-index
invariant-loop-index l = record {
  from : l.start ≤ l.index;
  to : l.index ≤ length l.self-inside.places.items;
  above : (k : ℕ) → l.index ≤ k → k < length l.self-inside.places.items → l.place < slice_index l.self-inside.places.items k;
}

abbrev pub decreases-loop-index : goal.decreases-loop-index
decreases-loop-index l = l.index
