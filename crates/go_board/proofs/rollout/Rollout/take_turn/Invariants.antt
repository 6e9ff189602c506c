use Rattle.std.proofs.Common.{◌≤◌, length}
use Rattle.go_board.specs.Game.{GameRecord}
use Rattle.go_board.specs.private.Rollouts.{IsRolloutOf}
use Rattle.go_board.proofs.drawing.Turns.{DrawsOn}
use Rattle.go_board.proofs.rollout.Rollout.take_turn.Given as goal

abbrev pub invariant-loop-left : goal.invariant-loop-left
invariant-loop-left g l = record {
  few : l.left ≤ length l.self.order;
  most : l.left ≤ 702;
  kept : (game : GameRecord) → IsRolloutOf game l.colour l.fn.self → IsRolloutOf game l.colour l.self;
  rest : (game : GameRecord) → IsRolloutOf game l.colour l.fn.self
      → DrawsOn g.W.Words.gives game l.colour (length l.fn.self.order) l.fn.self.order l.fn.words l.left l.self.order
      l.words;
}

abbrev pub decreases-loop-left : goal.decreases-loop-left
decreases-loop-left g l = l.left
