use Rattle.go_board.specs.private.Areas.{IsLearnt}
use Rattle.go_board.proofs.areas.Regions.learn.Given as goal

abbrev pub invariant-loop-index : goal.invariant-loop-index
invariant-loop-index l = IsLearnt l.fn.self.known l.self.known l.places l.beside
