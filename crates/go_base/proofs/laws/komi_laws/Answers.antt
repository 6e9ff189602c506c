use Rattle.go_base.proofs.numbers.Komis.{komi_of_spelled, spells_komi_of, spells_written_komi, one_komi}
use Rattle.go_base.proofs.laws.komi_laws.Goals as goal

pub returns-clause-function : goal.returns-clause-function
returns-clause-function c half_points text = (komi_of_spelled half_points text, spells_komi_of half_points text)

pub returns-clause-read_back : goal.returns-clause-read_back
returns-clause-read_back c = spells_written_komi

pub returns-clause-one : goal.returns-clause-one
returns-clause-one c = one_komi
