use Rattle.std.proofs.Common.{◌-◌, List, length, take, drop, subst, ◌∙◌, arith}
use Rattle.go_board.specs.declared.taken_stack.TakenStone.{TakenStone}
use Rattle.go_board.specs.private.TakenStack.{AreLastOf}
use Rattle.go_board.proofs.undo.LastTaken.{AreLastOf-read}
use Rattle.go_board.proofs.taken_stack.TakenStack.taken_by.Goals as goal
use Rattle.go_board.proofs.taken_stack.TakenStack.taken_by.Goals.{then-loop-first-test+else-from-number}
use Rattle.go_board.proofs.taken_stack.TakenStack.taken_by.Goals.{else-loop-first-test}

pub returns : goal.returns
returns c =
    let stones = c.stones-stones.result.now in
    let first = c.loop-first.first in
    subst (λ (ts : List TakenStone). AreLastOf ts c.args.number (take (length stones - first) (drop first stones)))
    c.stones-stones.ensures
    (AreLastOf-read stones c.args.number first (record { place = 0; number = 0 }) c.loop-first.invariant
    (λ some same. elim c.loop-first-test.branch [
      | then-loop-first-test+else-from-number w ↦ w.if-from-number.false (w.from.ensures ∙ same)
      | else-loop-first-test w ↦ let none = w.loop-first-test.false in absurd (omega (arith, none, some))
    ]))
