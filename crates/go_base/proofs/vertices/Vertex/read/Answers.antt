use Rattle.std.proofs.Common.{sym}
use Rattle.go_base.proofs.spellings.Readers.{IfNone-always}
use Rattle.go_base.proofs.spellings.SpelledVertices.{no_vertex, spells_point_of}
use Rattle.go_base.proofs.vertices.Vertex.read.Goals as goal

pub returns-in_err-point-clause-unread : goal.returns-in_err-point-clause-unread
returns-in_err-point-clause-unread c =
    IfNone-always c.from_residual.result
    (no_vertex c.args.text.now
    (λ same. let e = c.if-eq_ignore_ascii_case.ensures.test.1 same in cc) c.in_err-point.ensures)

pub returns-clause-read : goal.returns-clause-read
returns-clause-read c = spells_point_of c.in_ok-point.point c.args.text.now (sym c.in_ok-point.ensures)
