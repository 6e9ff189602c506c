use Rattle.std.proofs.Common.{◌≡◌, [], take}
use Rattle.gtp_session.specs.Candidates.{points_of}
use Rattle.gtp_session.proofs.choosing.CandidatesOfBoards.{among}
use Rattle.gtp_session.proofs.candidates.first_candidate.Given as goal

abbrev pub invariant-loop-point : goal.invariant-loop-point
invariant-loop-point l = record {
  points : l.point-items ≡ points_of l.game.size;
  none : among l.game l.colour (take l.point-index l.point-items) ≡ [];
}
