use Rattle.go_board.proofs.playouts.CapturedSets.{IsRemovingAll}
use Rattle.go_board.proofs.stones.Stones.remove_all.Given as goal

abbrev pub invariant-loop-index : goal.invariant-loop-index
invariant-loop-index l = IsRemovingAll l.fn.self l.places l.index l.self
