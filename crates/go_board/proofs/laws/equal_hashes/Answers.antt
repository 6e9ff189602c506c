use Rattle.go_board.proofs.of_laws.Hashes.{equal-boards, equal-positions}
use Rattle.go_board.proofs.of_laws.EmptyBoards.{own-hashes}
use Rattle.go_board.proofs.laws.equal_hashes.Goals as goal

pub returns-clause-boards : goal.returns-clause-boards
returns-clause-boards c = equal-boards

pub returns-clause-positions : goal.returns-clause-positions
returns-clause-positions c = equal-positions

pub returns-clause-sizes : goal.returns-clause-sizes
returns-clause-sizes c = own-hashes
