use Rattle.go_board.proofs.records.RowsOfPoints.{AreSorted}
use Rattle.go_board.proofs.game.Game.legal_in_row.Given as goal

abbrev pub invariant-loop-column : goal.invariant-loop-column
invariant-loop-column l = AreSorted l.self l.colour l.row l.legal l.left

abbrev pub decreases-loop-column : goal.decreases-loop-column
decreases-loop-column l = l.left
