use Rattle.go_board.proofs.records.RowsOfPoints.{AreWalked}
use Rattle.go_board.proofs.game.Game.legal_points_into.Given as goal

abbrev pub invariant-loop-row : goal.invariant-loop-row
invariant-loop-row l = AreWalked l.self l.colour l.row l.below l.here l.points.items
