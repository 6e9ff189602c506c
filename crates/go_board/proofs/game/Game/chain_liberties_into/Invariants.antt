use Rattle.go_board.specs.Game.{board_of}
use Rattle.go_board.specs.Liberties.{IsLiberty}
use Rattle.go_board.specs.private.PointList.{AreListedBefore}
use Rattle.go_board.proofs.game.Game.chain_liberties_into.Given as goal

abbrev pub invariant-loop-place : goal.invariant-loop-place
invariant-loop-place l = AreListedBefore (λ q. IsLiberty (board_of l.self) l.stone q) l.place l.points.items
