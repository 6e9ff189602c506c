use Rattle.std.proofs.Common.{◌≡◌, ◌≤◌, length, take}
use Rattle.arrayvec.specs.ArrayVec.{array_vec_len}
use Rattle.gtp_session.specs.Candidates.{points_of}
use Rattle.gtp_session.proofs.choosing.CandidatesOfBoards.{among}
use Rattle.gtp_session.proofs.candidates.candidates.Given as goal

abbrev pub invariant-loop-point : goal.invariant-loop-point
invariant-loop-point l = record {
  points : l.point-items ≡ points_of l.game.size;
  within : length l.point-items ≤ 625;
  found : l.found.items ≡ among l.game l.colour (take l.point-index l.point-items);
  few : array_vec_len l.found ≤ l.point-index;
}
