use Rattle.go_board.specs.Game.{board_of}
use Rattle.go_board.specs.private.Playouts.{IsOrderOf}
use Rattle.go_board.proofs.drawing.Turns.{PlaysOn}
use Rattle.go_board.proofs.game.Game.play_on.Given as goal

abbrev pub invariant-loop-mover : goal.invariant-loop-mover
invariant-loop-mover g l = record {
  order : IsOrderOf (board_of l.self) l.order;
  rest : PlaysOn g.W.Words.gives l.fn.self l.fn.colour l.fn.order l.limit l.fn.words l.self l.mover l.order l.left l.words;
}

abbrev pub decreases-loop-mover : goal.decreases-loop-mover
decreases-loop-mover g l = l.left
