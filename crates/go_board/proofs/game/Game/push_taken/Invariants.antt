use Rattle.go_board.specs.private.TakenStack.{places_of}
use Rattle.std.proofs.Common.{◌≡◌, ◌++◌, take}
use Rattle.go_board.proofs.game.Game.push_taken.Given as goal

abbrev pub invariant-loop-stone : goal.invariant-loop-stone
invariant-loop-stone l = l.order ≡ l.fn.order ++ places_of (take l.stone-index l.stone-items)
