use Rattle.std.proofs.Common.{refl}
use Rattle.go_board.proofs.floods.PlaceSets.{AreMarked-none}
use Rattle.go_board.proofs.places.Places.new.Goals as goal

pub invariant_of-result : goal.invariant_of-result
invariant_of-result c = AreMarked-none _ c.new.result refl c.new.ensures
