use Rattle.std.proofs.Common.{◌≡◌, map, take}
use Rattle.go_board.specs.declared.taken_stack.TakenStone.{TakenStone}
use Rattle.go_board.proofs.game.Game.taken_by_last_move_into.Given as goal

abbrev pub invariant-loop-stone : goal.invariant-loop-stone
invariant-loop-stone l =
    l.points.items ≡ map (λ (t : TakenStone). t.place) (take l.stone-index l.stone-items)
