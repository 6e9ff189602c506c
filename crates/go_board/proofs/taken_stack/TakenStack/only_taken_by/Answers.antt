use Rattle.std.proofs.Common.{◌≡◌, ◌∙◌, sym}
use Rattle.go_board.specs.private.TakenStack.{IsNotLast}
use Rattle.go_board.proofs.undo.PoppedStones.{IsNotLast-none, IsNotLast-other, IsOnlyTaken-last, not_only-two}
use Rattle.go_board.proofs.taken_stack.TakenStack.only_taken_by.Goals as goal
use Rattle.go_board.proofs.taken_stack.TakenStack.only_taken_by.Goals.{in-Some+else-from-number-2, in_default}

pub returns-then-from-number-2-clause-none : goal.returns-then-from-number-2-clause-none
returns-then-from-number-2-clause-none c =
    let same : c.deref.result.now ≡ c.args.self.now = (c.deref.ensures).0 ∙ c.self.view_is in
    not_only-two c.args.self.now c.in_ok-last.earlier.now c.in-Some.field-0-1.now c.in_ok-last.last.now
    c.in-Some.before.now c.args.number c.from-in-Some.result
    (sym same ∙ c.in_ok-last.ensures.cases.0) c.in-Some.ensures.cases.0 c.from-in-Some.ensures c.if-from-number-2.true

pub returns-clause-some : goal.returns-clause-some
returns-clause-some c =
    let same : c.deref.result.now ≡ c.args.self.now = (c.deref.ensures).0 ∙ c.self.view_is in
    let alone : IsNotLast c.in_ok-last.earlier.now c.args.number = elim c.match-split_last.branch [
      | in-Some+else-from-number-2 w ↦
          IsNotLast-other c.in_ok-last.earlier.now w.in-Some.field-0-1.now w.in-Some.before.now c.args.number
          w.from-in-Some.result w.in-Some.ensures.cases.0 w.from-in-Some.ensures w.if-from-number-2.false
      | in_default w ↦ IsNotLast-none c.in_ok-last.earlier.now c.args.number w.in_default.ensures.cases
    ] in
    IsOnlyTaken-last c.args.self.now c.in_ok-last.earlier.now c.in_ok-last.last.now c.from-2.result c.args.number
    c.from.result (sym same ∙ c.in_ok-last.ensures.cases.0) c.from-2.ensures c.from.ensures
    c.if-from-number.false alone
