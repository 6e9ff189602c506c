use Rattle.go_board.specs.Candidates.{IsCandidate}
use Rattle.go_board.specs.private.PointList.{AreListedBefore}
use Rattle.go_board.proofs.game.Game.candidates.Given as goal

abbrev pub invariant-loop-place : goal.invariant-loop-place
invariant-loop-place l = AreListedBefore (λ p. IsCandidate l.self l.colour p) l.place l.points.items
