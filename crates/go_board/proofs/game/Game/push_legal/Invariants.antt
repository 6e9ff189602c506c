use Rattle.go_board.proofs.records.RowsOfPoints.{ArePushed}
use Rattle.go_board.proofs.game.Game.push_legal.Given as goal

abbrev pub invariant-loop-column : goal.invariant-loop-column
invariant-loop-column l = ArePushed l.self l.fn.colour l.row l.legal l.points.items

abbrev pub decreases-loop-column : goal.decreases-loop-column
decreases-loop-column l = l.legal
