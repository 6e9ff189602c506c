use Rattle.std.proofs.Common.{◌∙◌, rules}
use Rattle.go_board.proofs.boards.FirstBoard.{start-not_allowed, start-from_points}
use Rattle.go_board.proofs.board.Board.start.Goals as goal

pub returns-in-Some-clause-board : goal.returns-in-Some-clause-board
returns-in-Some-clause-board c =
    start-from_points c.args.size c.args.stones c.deref.result.now c.place_black.new.self c.empty-board.result
    c.place_black.ensures.board c.empty-board.ensures.board
    ((c.deref.ensures).0 ∙ c.in-Some.ensures.points)

pub returns-in_default-clause-board : goal.returns-in_default-clause-board
returns-in_default-clause-board c =
    c.empty-board.ensures.board ∙ start-not_allowed c.args.size c.args.stones c.requires (λ allowed. search rules)
