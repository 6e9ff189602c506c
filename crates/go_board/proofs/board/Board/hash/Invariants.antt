use Rattle.std.proofs.Common.{◌≡◌}
use Rattle.go_board.proofs.HashSums.{hash_below}
use Rattle.go_board.proofs.board.Board.hash.Given as goal

abbrev pub invariant-loop-place : goal.invariant-loop-place
invariant-loop-place l = l.sum ≡ hash_below l.fn.size l.self l.place
