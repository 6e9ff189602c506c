use Rattle.std.proofs.Common.{◌≡◌, ◌+◌, ◌*◌, ◌≤◌}
use Rattle.arrayvec.specs.ArrayVec.{array_vec_len}
use Rattle.go_board.proofs.BoardText.{rows_above}
use Rattle.go_board.proofs.game.Game.show.Given as goal

abbrev pub invariant-loop-row : goal.invariant-loop-row
invariant-loop-row l = record {
  written : l.text.items ≡ rows_above l.self l.row;
  few : array_vec_len l.text + 53 * l.row ≤ 53 * 25;
}
