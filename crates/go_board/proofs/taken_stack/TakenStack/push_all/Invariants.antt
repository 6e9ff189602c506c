use Rattle.std.proofs.Common.{◌≡◌, ◌++◌, take}
use Rattle.go_board.specs.private.TakenStack.{taken_at}
use Rattle.go_board.proofs.taken_stack.TakenStack.push_all.Given as goal

abbrev pub invariant-loop-index : goal.invariant-loop-index
invariant-loop-index l = l.self ≡ l.fn.self ++ taken_at l.number (take l.index l.places)
