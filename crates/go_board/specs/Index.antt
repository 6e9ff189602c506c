-- The points of a board by number: how a search keeps a value for each point in a list.
use Rattle.std.specs.Prelude.{◌≡◌, ℕ, ◌+◌, ◌-◌, ◌*◌, ◌<◌, ◌↔◌, Bool, IsTrue, List, length, slice_get, Option, Some}
use Rattle.go_base.specs.Point.{column_of, row_of, IsOn}
use Rattle.go_base.specs.Size.{IsSize}
use Rattle.go_base.specs.declared.colours.Colour.{Colour}
use Rattle.go_base.specs.declared.vertices.Vertex.TheVariants.{At}
use Rattle.go_board.specs.Board.{stone_at}
use Rattle.go_board.specs.Game.{GameRecord, IsLegal, board_of}

-- the point's number on a board of this size, from 0, in the order A1, B1, .., A2, B2, ..
pub record IsIndex (size p index : ℕ) : Type 0 where
  pub on_board : IsOn size p
  pub index_is : index ≡ (row_of p - 1) * size + (column_of p - 1)

-- The list has a value for each point of a board of this size, in that order, and of each point and its value P holds.
pub record IsTable {A : Type 0} (P : ℕ → A → Type 0) (size : ℕ) (values : List A) : Type 0 where
  pub long : length values ≡ size * size
  pub each : (p index : ℕ) (value : A) → IsIndex size p index → slice_get values index ≡ Some value → P p value

-- the list has the stone on each point, where there is one
abbrev pub AreStones : GameRecord → List (Option Colour) → Type 0
AreStones game stones = IsTable (λ p stone. stone ≡ stone_at (board_of game) p) game.size stones

-- the list says of each point whether the colour may play on it
abbrev pub AreLegalMarks : GameRecord → Colour → List Bool → Type 0
AreLegalMarks game c marks = IsTable (λ p mark. IsTrue mark ↔ IsLegal game c (At p)) game.size marks

-- no number is that of two points
abbrev pub IndexesAreOfOnePoint : Type 0
IndexesAreOfOnePoint = (size p q index : ℕ) → IsIndex size p index → IsIndex size q index → p ≡ q

-- the numbers below the number of points are just those of the points
abbrev pub IndexesAreThose : Type 0
IndexesAreThose = (size index : ℕ) → IsSize size → (index < size * size) ↔ ((p : ℕ) × IsIndex size p index)
