use Rattle.std.proofs.Common.{◌≡◌, ◌∙◌, List, sym, subst, length}
use Rattle.go_board.specs.declared.taken_stack.TakenStone.{TakenStone}
use Rattle.go_board.proofs.undo.PoppedStones.{IsNotLast-none, IsNotLast-other}
use Rattle.go_board.proofs.taken_stack.TakenStack.pop_taken_by.Goals as goal

pub returns-in_err-last-clause-none : goal.returns-in_err-last-clause-none
returns-in_err-last-clause-none c =
    let same : c.deref.result.now ≡ c.args.self.now = (c.deref.ensures).0 ∙ c.self.view_is in
    rw c.from_residual.ensures
    (IsNotLast-none c.args.self.now c.args.number
    (subst (λ (ts : List TakenStone). length ts ≡ 0) same c.in_err-last.ensures.cases))

pub returns-then-from-number-clause-none : goal.returns-then-from-number-clause-none
returns-then-from-number-clause-none c =
    let same : c.deref.result.now ≡ c.args.self.now = (c.deref.ensures).0 ∙ c.self.view_is in
    IsNotLast-other c.args.self.now c.in_ok-last.field-0-1.now c.in_ok-last.last.now c.args.number c.from.result
    (sym same ∙ c.in_ok-last.ensures.cases.0) c.from.ensures c.if-from-number.true
