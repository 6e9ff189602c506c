use Rattle.go_board.proofs.of_laws.BoardsAndScores.{stones-on}
use Rattle.go_board.proofs.laws.stones_on_the_board.Goals as goal

pub returns : goal.returns
returns c = stones-on
