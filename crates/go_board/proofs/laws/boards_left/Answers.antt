use Rattle.go_board.proofs.of_laws.BoardsAndScores.{left-there, left-back}
use Rattle.go_board.proofs.laws.boards_left.Goals as goal

pub returns : goal.returns
returns c game colour vertex board legal =
    (left-there game colour vertex board legal, left-back game colour vertex board legal)
