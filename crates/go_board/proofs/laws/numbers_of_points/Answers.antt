use Rattle.go_board.proofs.records.Tables.{index-one, numbers-those}
use Rattle.go_board.proofs.laws.numbers_of_points.Goals as goal

pub returns-clause-one : goal.returns-clause-one
returns-clause-one c = index-one

pub returns-clause-those : goal.returns-clause-those
returns-clause-those c = numbers-those
