use Rattle.std.proofs.Common.{◌≡◌, ◌+◌, ◌*◌, ◌++◌}
use Rattle.arrayvec.specs.ArrayVec.{array_vec_len}
use Rattle.go_board.proofs.BoardText.{points_before}
use Rattle.go_board.proofs.game.Game.push_points.Given as goal

abbrev pub invariant-loop-column : goal.invariant-loop-column
invariant-loop-column l = record {
  written : l.text.items ≡ l.initial.text.items ++ points_before l.self l.row l.column;
  len : array_vec_len l.text + 2 ≡ array_vec_len l.initial.text + 2 * l.column;
}
