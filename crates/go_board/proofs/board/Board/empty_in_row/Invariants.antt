use Rattle.std.proofs.Common.{◌≡◌, ℕ, ◌+◌, ◌*◌, ◌<◌, length, get_or}
use Rattle.std.specs.Prelude.{◌↔◌}
use Rattle.go_board.specs.Board.{at}
use Rattle.go_board.specs.declared.board.Cell.TheVariants.{Empty}
use Rattle.go_board.proofs.board.Board.empty_in_row.Given as goal

-- the lanes of the first columns are 1 where these are empty points, and no other lane is
abbrev pub invariant-loop-column : goal.invariant-loop-column
invariant-loop-column l =
    (length l.lanes ≡ 32)
    × ((k : ℕ) → (get_or l.lanes k 0 ≡ 1) ↔ ((k < l.column) × (at l.fn.self (26 * l.row + k) ≡ Empty)))
