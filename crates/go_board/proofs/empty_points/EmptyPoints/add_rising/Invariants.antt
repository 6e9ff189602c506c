use Rattle.go_board.proofs.playouts.RisingPlaces.{IsAddingRising}
use Rattle.go_board.proofs.empty_points.EmptyPoints.add_rising.Given as goal

abbrev pub invariant-loop-index : goal.invariant-loop-index
invariant-loop-index l = IsAddingRising l.fn.self l.places l.index l.self
