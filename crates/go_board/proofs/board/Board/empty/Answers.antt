use Rattle.std.proofs.Common.{◌≤◌, ◌∙◌, ap}
use Rattle.go_board.specs.Board.{empty_board}
use Rattle.go_board.proofs.boards.EmptyBoard.{empty_board-from_places}
use Rattle.go_board.proofs.board.Board.empty.Goals as goal
use Rattle.go_board.proofs.board.Board.empty.Goals.{After-loop-place}

pub returns-clause-board : goal.returns-clause-board
returns-clause-board c =
    empty_board-from_places c.get-lines.result c.loop-place.cell-items c.loop-place.place
    c.loop-place.invariant.length_is c.loop-place-test.false c.loop-place.invariant.done
    ∙ ap empty_board c.get-lines.ensures.value

few : (c : After-loop-place) → c.args.size ≤ 25
few c = c.get-lines.ensures.limits.most
