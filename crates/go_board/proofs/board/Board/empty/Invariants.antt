use Rattle.std.proofs.Common.{◌≡◌, ℕ, ◌<◌, length}
use Rattle.std.specs.Prelude.{if◌then◌else◌}
use Rattle.go_board.specs.Board.{at, is_point}
use Rattle.go_board.specs.declared.board.Cell.TheVariants.{Edge, Empty}
use Rattle.go_board.proofs.board.Board.empty.Given as goal

abbrev pub invariant-loop-place : goal.invariant-loop-place
invariant-loop-place l = record {
  length_is : length l.cell-items ≡ 702;
  done : (k : ℕ) → k < l.place → at l.cell-items k ≡ (if is_point l.lines k then Empty else Edge);
}
