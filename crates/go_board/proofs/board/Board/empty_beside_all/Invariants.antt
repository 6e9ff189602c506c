use Rattle.go_board.proofs.floods.Liberties.{AreFoundBeside}
use Rattle.go_board.proofs.board.Board.empty_beside_all.Given as goal

abbrev pub invariant-loop-index : goal.invariant-loop-index
invariant-loop-index l = AreFoundBeside l.self l.places l.index l.found
