use Rattle.go_board.proofs.floods.PlaceSets.{IsClearing}
use Rattle.go_board.proofs.places.Places.clear.Given as goal

abbrev pub invariant-loop-index : goal.invariant-loop-index
invariant-loop-index l = IsClearing l.fn.self l.index l.self-inside.order.items l.self-inside.marked
