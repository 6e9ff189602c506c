use Rattle.go_board.specs.Game.{GameRecord}
use Rattle.go_board.specs.private.Rollouts.{IsRolloutOf}
use Rattle.go_board.proofs.drawing.Rollouts.{IsReached}
use Rattle.go_board.proofs.rollout.Rollout.play_on.Given as goal

abbrev pub invariant-loop-mover : goal.invariant-loop-mover
invariant-loop-mover g l = (game : GameRecord) → IsRolloutOf game l.fn.colour l.fn.self
    → IsReached g.W.Words.gives game l.fn.colour l.fn.self.order l.limit l.fn.words l.mover l.self l.left l.words

abbrev pub decreases-loop-mover : goal.decreases-loop-mover
decreases-loop-mover g l = l.left
