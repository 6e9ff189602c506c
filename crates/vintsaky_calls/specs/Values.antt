-- Values as numbers and as texts.
use Rattle.std.specs.Prelude.{◌≡◌, ℕ, ℤ, List, length, OnOk, OnErr, IfErr}
use Rattle.go_base.specs.Colour.{SpellsColour, written_colour}
use Rattle.go_base.specs.HalfPoints.{written_half_points}
use Rattle.go_base.specs.Komi.{IsKomi, SpellsKomi}
use Rattle.go_base.specs.Point.{IsCrossing, point}
use Rattle.go_base.specs.Vertex.{written_vertex, SpellsVertex}
use Rattle.go_base.specs.declared.colours.Colour.{Colour}
use Rattle.go_base.specs.declared.vertices.Vertex.{Vertex}
use Rattle.vintsaky_calls.specs.Codes.{colour_code, IsCodeOf, vertex_code, point_code, NoColour, NoVertex, CallResult}
use Rattle.vintsaky_calls.specs.Texts.{Puts}
use Rattle.vintsaky_calls.specs.declared.causes.Cause.TheVariants as cause

-- the text spells a colour, whose number this is
pub record ReadsColour (text : List ℕ) (number : ℕ) : Type 0 where
  pub colour : Colour
  pub spells : SpellsColour colour text
  pub number_is : number ≡ colour_code colour

-- A colour is read; or the text spells none, and nothing is written.
pub record ReadColourCall (text : List ℕ) (old new : ℕ) (made : CallResult) : Type 0 where
  pub read : OnOk made (ReadsColour text new)
  pub kept : OnErr made (new ≡ old)
  pub why : IfErr made (λ why. (why ≡ cause.BadText) × ((c : Colour) → SpellsColour c text → ⊥))

-- the colour of the number is written, with its length
pub record WritesColour (number : ℕ) (old new : List ℕ) (count : ℕ) : Type 0 where
  pub colour : Colour
  pub number_is : number ≡ colour_code colour
  pub puts : Puts (written_colour colour) old new
  pub count_is : count ≡ length (written_colour colour)

-- A colour is written; or the number is none, and nothing is written.
pub record ColourTextCall (number : ℕ) (old new : List ℕ) (count_old count_new : ℕ) (made : CallResult) : Type 0 where
  pub written : OnOk made (WritesColour number old new count_new)
  pub kept : OnErr made ((new ≡ old) × (count_new ≡ count_old))
  pub why : IfErr made (λ why. (why ≡ cause.BadColour) × NoColour number)

-- The number of a point is found; or the column and the row have none, and nothing is written.
pub record PointCall (column row old new : ℕ) (made : CallResult) : Type 0 where
  pub found : OnOk made (IsCrossing column row × (new ≡ point_code (point column row)))
  pub kept : OnErr made (new ≡ old)
  pub why : IfErr made (λ why. (why ≡ cause.BadVertex) × ¬ IsCrossing column row)

-- the text spells a vertex, whose number this is
pub record ReadsVertex (text : List ℕ) (number : ℕ) : Type 0 where
  pub vertex : Vertex
  pub spells : SpellsVertex vertex text
  pub number_is : number ≡ vertex_code vertex

-- A vertex is read; or the text spells none, and nothing is written.
pub record ReadVertexCall (text : List ℕ) (old new : ℕ) (made : CallResult) : Type 0 where
  pub read : OnOk made (ReadsVertex text new)
  pub kept : OnErr made (new ≡ old)
  pub why : IfErr made (λ why. (why ≡ cause.BadText) × ((v : Vertex) → SpellsVertex v text → ⊥))

-- the vertex of the number is written, with its length
pub record WritesVertex (number : ℕ) (old new : List ℕ) (count : ℕ) : Type 0 where
  pub vertex : Vertex
  pub is : IsCodeOf number vertex
  pub puts : Puts (written_vertex vertex) old new
  pub count_is : count ≡ length (written_vertex vertex)

-- A vertex is written; or the number is none, and nothing is written.
pub record VertexTextCall (number : ℕ) (old new : List ℕ) (count_old count_new : ℕ) (made : CallResult) : Type 0 where
  pub written : OnOk made (WritesVertex number old new count_new)
  pub kept : OnErr made ((new ≡ old) × (count_new ≡ count_old))
  pub why : IfErr made (λ why. (why ≡ cause.BadVertex) × NoVertex number)

-- A komi is read; or the text spells none, and nothing is written.
pub record ReadKomiCall (text : List ℕ) (old new : ℤ) (made : CallResult) : Type 0 where
  pub read : OnOk made (SpellsKomi new text)
  pub kept : OnErr made (new ≡ old)
  pub why : IfErr made (λ why. (why ≡ cause.BadText) × ((z : ℤ) → SpellsKomi z text → ⊥))

-- the komi is written, with its length
pub record WritesKomi (half_points : ℤ) (old new : List ℕ) (count : ℕ) : Type 0 where
  pub is : IsKomi half_points
  pub puts : Puts (written_half_points half_points) old new
  pub count_is : count ≡ length (written_half_points half_points)

-- A komi is written; or the number is none, and nothing is written.
pub record KomiTextCall (half_points : ℤ) (old new : List ℕ) (count_old count_new : ℕ) (made : CallResult)
    : Type 0 where
  pub written : OnOk made (WritesKomi half_points old new count_new)
  pub kept : OnErr made ((new ≡ old) × (count_new ≡ count_old))
  pub why : IfErr made (λ why. (why ≡ cause.BadKomi) × ¬ IsKomi half_points)
