use Rattle.go_board.proofs.undo.LastTaken.{IsReadBack}
use Rattle.go_board.proofs.taken_stack.TakenStack.taken_by.Given as goal

abbrev pub invariant-loop-first : goal.invariant-loop-first
invariant-loop-first l = IsReadBack l.stones l.number l.first

abbrev pub decreases-loop-first : goal.decreases-loop-first
decreases-loop-first l = l.first
