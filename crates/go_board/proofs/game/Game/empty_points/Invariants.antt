use Rattle.go_board.specs.Game.{board_of}
use Rattle.go_board.specs.private.Playouts.{AreEmptyBelow}
use Rattle.go_board.proofs.game.Game.empty_points.Given as goal

abbrev pub invariant-loop-place : goal.invariant-loop-place
invariant-loop-place l = AreEmptyBelow (board_of l.self) l.place l.order
