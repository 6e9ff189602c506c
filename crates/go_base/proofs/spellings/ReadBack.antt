-- What is written of a value is read as it.
use Rattle.std.proofs.Common.{◌≡◌, ℕ, ◌≤◌, Some, arith}
use Rattle.std.specs.Prelude.{ℤ}
use Rattle.go_base.specs.Int.{most_int, int_of, written_int}
use Rattle.go_base.specs.Size.{IsSize}
use Rattle.go_base.specs.Komi.{IsKomi, komi_of}
use Rattle.go_base.specs.HalfPoints.{written_half_points}
use Rattle.go_base.specs.Colour.{colour_of, written_colour}
use Rattle.go_base.specs.Vertex.{IsVertex, vertex_of, written_vertex}
use Rattle.go_base.specs.declared.colours.Colour.{Colour}
use Rattle.go_base.specs.declared.vertices.Vertex.{Vertex}
use Rattle.go_base.proofs.numbers.Ints.{int_of_spelled, spells_written_int}
use Rattle.go_base.proofs.numbers.Komis.{komi_of_spelled, spells_written_komi}
use Rattle.go_base.proofs.spellings.SpelledColours.{colour_of_spelled, spells_written_colour}
use Rattle.go_base.proofs.spellings.SpelledVertices.{vertex_of_spelled, spells_written_vertex}

pub int_reads : (n : ℕ) → n ≤ most_int → int_of (written_int n) ≡ Some n
int_reads n most = int_of_spelled n (written_int n) (spells_written_int n most)

pub size_reads : (n : ℕ) → IsSize n → int_of (written_int n) ≡ Some n
size_reads n size = int_reads n (omega (arith, size.most))

pub komi_reads : (k : ℤ) → IsKomi k → komi_of (written_half_points k) ≡ Some k
komi_reads k komi = komi_of_spelled k (written_half_points k) (spells_written_komi k komi)

pub colour_reads : (c : Colour) → colour_of (written_colour c) ≡ Some c
colour_reads c = colour_of_spelled c (written_colour c) (spells_written_colour c)

pub vertex_reads : (v : Vertex) → IsVertex v → vertex_of (written_vertex v) ≡ Some v
vertex_reads v is = vertex_of_spelled v (written_vertex v) (spells_written_vertex v is)
