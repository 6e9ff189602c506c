use Rattle.std.proofs.Common.{◌-◌}
use Rattle.go_board.proofs.playouts.CapturedSets.{IsTakingAll}
use Rattle.go_board.proofs.stones.Stones.captured_into.Given as goal

abbrev pub invariant-loop-next : goal.invariant-loop-next
invariant-loop-next l = IsTakingAll l.self.board l.fn.colour l.place l.next l.found

abbrev pub decreases-loop-next : goal.decreases-loop-next
decreases-loop-next l = 702 - l.next
