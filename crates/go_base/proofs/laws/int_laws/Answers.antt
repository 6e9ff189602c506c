use Rattle.go_base.proofs.numbers.Ints.{int_of_spelled, spells_int_of, spells_written_int, one_int}
use Rattle.go_base.proofs.laws.int_laws.Goals as goal

pub returns-clause-function : goal.returns-clause-function
returns-clause-function c n text = (int_of_spelled n text, spells_int_of n text)

pub returns-clause-read_back : goal.returns-clause-read_back
returns-clause-read_back c = spells_written_int

pub returns-clause-one : goal.returns-clause-one
returns-clause-one c = one_int
