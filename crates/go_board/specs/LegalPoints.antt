-- The points on which a colour may play next.
use Rattle.std.specs.Prelude.{ℕ, ◌<◌, ◌↔◌, List, Contains}
use Rattle.std.specs.List.{AllPairs}
use Rattle.go_base.specs.declared.colours.Colour.{Colour}
use Rattle.go_base.specs.declared.vertices.Vertex.TheVariants.{At}
use Rattle.go_board.specs.Game.{GameRecord, IsLegal}

-- The list has each point on which the colour may play, and no other, row by row from A1 and each once: its place is
-- before those of the points after it.
pub record AreLegalPoints (game : GameRecord) (c : Colour) (points : List ℕ) : Type 0 where
  pub each : (p : ℕ) → Contains points p ↔ IsLegal game c (At p)
  pub in_order : AllPairs (λ p q. p < q) points
