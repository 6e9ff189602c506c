use Rattle.go_board.proofs.of_laws.RandomMoves.{chosen-evenly}
use Rattle.go_board.proofs.laws.random_moves.Goals as goal

pub returns : goal.returns
returns c = chosen-evenly
