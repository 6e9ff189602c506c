use Rattle.go_board.proofs.records.LastTaken.{stack_end}
use Rattle.go_board.proofs.game.Game.last_taken.Goals as goal

pub returns-in-Some-clause-taken : goal.returns-in-Some-clause-taken
returns-in-Some-clause-taken c =
    stack_end c.self.inside c.args.self.now c.taken_by.result.now c.len.result c.in-Some.number c.self.invariant
    c.self.view_is c.len.ensures.value c.in-Some.ensures c.taken_by.ensures
