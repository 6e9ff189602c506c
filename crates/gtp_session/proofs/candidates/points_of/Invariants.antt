use Rattle.std.proofs.Common.{◌≡◌, ◌+◌, ◌*◌, ◌≤◌}
use Rattle.arrayvec.specs.ArrayVec.{array_vec_len}
use Rattle.gtp_session.proofs.choosing.CandidatesOfBoards.{rows_before}
use Rattle.gtp_session.proofs.candidates.points_of.Given as goal

abbrev pub invariant-loop-row : goal.invariant-loop-row
invariant-loop-row l = record {
  written : l.points.items ≡ rows_before l.size l.row;
  few : array_vec_len l.points + 25 ≤ 25 * l.row;
}
