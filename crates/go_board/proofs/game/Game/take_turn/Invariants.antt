use Rattle.std.proofs.Common.{◌≡◌, ◌≤◌, length}
use Rattle.go_board.specs.Game.{board_of}
use Rattle.go_board.specs.private.Playouts.{IsOrderOf}
use Rattle.go_board.proofs.drawing.Turns.{DrawsOn}
use Rattle.go_board.proofs.game.Game.take_turn.Given as goal

abbrev pub invariant-loop-left : goal.invariant-loop-left
invariant-loop-left g l = record {
  same : l.self ≡ l.fn.self;
  order : IsOrderOf (board_of l.fn.self) l.order;
  few : l.left ≤ length l.order;
  most : l.left ≤ 702;
  rest : DrawsOn g.W.Words.gives l.fn.self l.colour (length l.fn.order) l.fn.order l.fn.words l.left l.order l.words;
}

abbrev pub decreases-loop-left : goal.decreases-loop-left
decreases-loop-left g l = l.left
