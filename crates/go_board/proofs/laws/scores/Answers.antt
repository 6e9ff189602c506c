use Rattle.go_board.proofs.of_laws.BoardsAndScores.{score-is}
use Rattle.go_board.proofs.laws.scores.Goals as goal

pub returns : goal.returns
returns c = score-is
