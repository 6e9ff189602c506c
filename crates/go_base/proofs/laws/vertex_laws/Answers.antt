use Rattle.go_base.proofs.spellings.SpelledVertices.{vertex_of_spelled, spells_vertex_of, spells_written_vertex}
use Rattle.go_base.proofs.spellings.SpelledVertices.{one_vertex}
use Rattle.go_base.proofs.laws.vertex_laws.Goals as goal

pub returns-clause-function : goal.returns-clause-function
returns-clause-function c vertex text = (vertex_of_spelled vertex text, spells_vertex_of vertex text)

pub returns-clause-read_back : goal.returns-clause-read_back
returns-clause-read_back c = spells_written_vertex

pub returns-clause-one : goal.returns-clause-one
returns-clause-one c = one_vertex
