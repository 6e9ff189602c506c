use Rattle.std.proofs.Common.{◌≡◌, ℕ, ◌<◌, ◌≤◌}
use Rattle.std.specs.Prelude.{None}
use Rattle.go_base.specs.Point.{point}
use Rattle.go_board.specs.Board.{stone_at}
use Rattle.go_board.specs.Game.{board_of}
use Rattle.gtp_check_texts.proofs.board.has_stone_in_row.Given as goal

-- no stone is in the columns before
abbrev pub invariant-loop-column : goal.invariant-loop-column
invariant-loop-column l =
    (k : ℕ) → 1 ≤ k → k < l.column → stone_at (board_of l.game) (point k l.row) ≡ None
