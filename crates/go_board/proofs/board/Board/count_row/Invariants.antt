use Rattle.go_board.proofs.scores.OpenPoints.{IsRowCounted}
use Rattle.go_board.proofs.board.Board.count_row.Given as goal

abbrev pub invariant-loop-column : goal.invariant-loop-column
invariant-loop-column l = IsRowCounted l.self l.row l.empty l.area l.regions.known

abbrev pub decreases-loop-column : goal.decreases-loop-column
decreases-loop-column l = l.empty
