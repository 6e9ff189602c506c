use Rattle.go_base.proofs.spellings.SpelledColours.{colour_of_spelled, spells_colour_of, spells_written_colour}
use Rattle.go_base.proofs.spellings.SpelledColours.{one_colour}
use Rattle.go_base.proofs.laws.colour_laws.Goals as goal

pub returns-clause-function : goal.returns-clause-function
returns-clause-function c colour text = (colour_of_spelled colour text, spells_colour_of colour text)

pub returns-clause-read_back : goal.returns-clause-read_back
returns-clause-read_back c = spells_written_colour

pub returns-clause-one : goal.returns-clause-one
returns-clause-one c = one_colour
