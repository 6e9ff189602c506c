use Rattle.go_board.proofs.of_laws.BoardsAndScores.{none-first, adds-taken}
use Rattle.go_board.proofs.laws.taken_stones.Goals as goal

pub returns-clause-first : goal.returns-clause-first
returns-clause-first c = none-first

pub returns-clause-more : goal.returns-clause-more
returns-clause-more c = adds-taken
