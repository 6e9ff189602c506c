use Rattle.std.proofs.Common.{◌≡◌, length}
use Rattle.go_board.specs.private.TakenStack.{ArePoints, cleared, later_than}
use Rattle.go_board.proofs.board.Board.clear_taken.Given as goal

abbrev pub invariant-loop-first : goal.invariant-loop-first
invariant-loop-first l = record {
  board : cleared l.fn.self l.number l.fn.stones ≡ cleared l.self l.number l.left;
  left : later_than l.number l.fn.stones ≡ later_than l.number l.left;
  points : ArePoints l.self l.left;
}

abbrev pub decreases-loop-first : goal.decreases-loop-first
decreases-loop-first l = length l.left
