use Rattle.std.proofs.Common.{sym, ◌∙◌, true≢false}
use Rattle.go_board.proofs.floods.Beside.{lone-beside}
use Rattle.go_board.proofs.board.Board.beside_empty.Goals as goal

pub returns-else-has_beside-clause-beside : goal.returns-else-has_beside-clause-beside
returns-else-has_beside-clause-beside c =
    lone-beside c.args.self.now c.args.place c.beside.result c.requires.empty
    (λ h. true≢false (sym (c.has_beside.ensures.1 h) ∙ c.if-has_beside.false)) c.beside.ensures
