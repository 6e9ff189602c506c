-- Vertices, and the texts that spell them. (The standard's simple entities: vertex. That a row has no leading zeros is
-- own.)
use Rattle.std.specs.Prelude.{◌≡◌, ℕ, ◌+◌, ◌-◌, ◌↔◌, Bool, false, ◌&&◌, ◌==◌, nat_le, List, [], ◌∷◌}
use Rattle.std.specs.Prelude.{Option, Some, None, map, option_map, codes, if◌then◌else◌}
use Rattle.std.specs.Char.{to_ascii_uppercase}
use Rattle.std.specs.List.{join_with_byte}
use Rattle.go_base.specs.Bytes.{space, digit_0, capital_a, capital_h, capital_j, capital_z}
use Rattle.go_base.specs.Int.{int_of, written_int}
use Rattle.go_base.specs.Size.{most_size}
use Rattle.go_base.specs.Point.{point, column_of, row_of, IsOn}
use Rattle.go_base.specs.Word.{IsWord, is_word}
use Rattle.go_base.specs.declared.vertices.Vertex.{Vertex}
use Rattle.go_base.specs.declared.vertices.Vertex.TheVariants.{Pass, At}

-- the capital letter of a column: A to H for 1 to 8, and J to Z for 9 to 25; I is left out
abbrev pub letter_of : ℕ → ℕ
letter_of column = if nat_le column 8 then capital_a - 1 + column else capital_j - 9 + column

-- The text spells the point: the letter of its column, capital or small, and its row without leading zeros.
pub record SpellsPoint (p : ℕ) (text : List ℕ) : Type 0 where
  pub on : IsOn most_size p
  pub letter : ℕ
  pub letter_is : to_ascii_uppercase letter ≡ letter_of (column_of p)
  pub shape : text ≡ letter ∷ written_int (row_of p)

-- The text spells the vertex: `pass`, whatever the case, or a point.
abbrev pub SpellsVertex : Vertex → List ℕ → Type 0
SpellsVertex Pass text = IsWord (codes "pass") text
SpellsVertex (At p) text = SpellsPoint p text

-- the one spelling that is written: `pass`, or the capital letter and the row
abbrev pub written_vertex : Vertex → List ℕ
written_vertex Pass = codes "pass"
written_vertex (At p) = letter_of (column_of p) ∷ written_int (row_of p)

-- the points' vertices, separated by single spaces
abbrev pub written_vertices : List ℕ → List ℕ
written_vertices points = join_with_byte space (map (λ p. written_vertex (At p)) points)

-- the column of a letter, capital or small, where it has one
abbrev pub column_of_letter : ℕ → Option ℕ
column_of_letter letter =
    let capital = to_ascii_uppercase letter in
    if nat_le capital_a capital && nat_le capital capital_h then Some (capital - capital_a + 1)
    else (if nat_le capital_j capital && nat_le capital capital_z then Some (capital - capital_j + 9) else None)

abbrev pub starts_with_zero : List ℕ → Bool
starts_with_zero [] = false
starts_with_zero (digit ∷ digits) = digit == digit_0

-- the number that digits without leading zeros spell, where they spell one
abbrev pub row_of_digits : List ℕ → Option ℕ
row_of_digits digits = if starts_with_zero digits then None else int_of digits

-- the point of a column and a row, where there are both and the row is 1 to 25
abbrev pub point_where : Option ℕ → Option ℕ → Option ℕ
point_where None row = None
point_where (Some column) None = None
point_where (Some column) (Some row) = if nat_le 1 row && nat_le row most_size then Some (point column row) else None

-- the point that the text spells, where it spells one
abbrev pub point_of : List ℕ → Option ℕ
point_of [] = None
point_of (letter ∷ digits) = point_where (column_of_letter letter) (row_of_digits digits)

-- the vertex that the text spells, where it spells one
abbrev pub vertex_of : List ℕ → Option Vertex
vertex_of text = if is_word (codes "pass") text then Some Pass else option_map At (point_of text)

-- a pass, or a point of the largest board
abbrev pub IsVertex : Vertex → Type 0
IsVertex Pass = Unit {0}
IsVertex (At p) = IsOn most_size p

-- the function agrees with the relation
abbrev pub VertexOfAgrees : Type 0
VertexOfAgrees = (vertex : Vertex) (text : List ℕ) → SpellsVertex vertex text ↔ (vertex_of text ≡ Some vertex)

-- what is written of a vertex spells it, and so it is read back
abbrev pub VerticesReadBack : Type 0
VerticesReadBack = (vertex : Vertex) → IsVertex vertex → SpellsVertex vertex (written_vertex vertex)

-- a text spells at most one vertex
abbrev pub SpellsOneVertex : Type 0
SpellsOneVertex = (v w : Vertex) (text : List ℕ) → SpellsVertex v text → SpellsVertex w text → v ≡ w
