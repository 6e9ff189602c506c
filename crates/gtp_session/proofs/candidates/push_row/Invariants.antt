use Rattle.std.proofs.Common.{◌≡◌, ◌+◌, ◌++◌}
use Rattle.arrayvec.specs.ArrayVec.{array_vec_len}
use Rattle.gtp_session.proofs.choosing.CandidatesOfBoards.{points_before}
use Rattle.gtp_session.proofs.candidates.push_row.Given as goal

abbrev pub invariant-loop-column : goal.invariant-loop-column
invariant-loop-column l = record {
  written : l.points.items ≡ l.fn.points.items ++ points_before l.row l.column;
  len : array_vec_len l.points + 1 ≡ array_vec_len l.fn.points + l.column;
}
