use Rattle.go_board.proofs.of_laws.BoardsAndScores.{first-there, first-back}
use Rattle.go_board.proofs.laws.first_boards.Goals as goal

pub returns : goal.returns
returns c game board is none = (first-there game board is none, first-back game board is none)
