use Rattle.std.proofs.Common.{◌≡◌, ◌+◌, ◌*◌, ◌≤◌, ◌++◌}
use Rattle.arrayvec.specs.ArrayVec.{array_vec_len}
use Rattle.go_board.proofs.BoardText.{letters_before}
use Rattle.go_board.proofs.show.push_letters.Given as goal

abbrev pub invariant-loop-column : goal.invariant-loop-column
invariant-loop-column l = record {
  few : l.column ≤ l.size + 1;
  written : l.text.items ≡ l.fn.text.items ++ letters_before l.column;
  len : array_vec_len l.text + 3 ≡ array_vec_len l.fn.text + 2 * l.column;
}
