-- The points that a policy chooses among. (Own; the standard leaves to the engine how it finds a move.)
use Rattle.std.specs.Prelude.{◌≡◌, ◌⊎◌, ℕ, Some, None}
use Rattle.go_base.specs.Point.{IsOn, Neighbours}
use Rattle.go_base.specs.Colour.{other}
use Rattle.go_base.specs.declared.colours.Colour.{Colour}
use Rattle.go_base.specs.declared.vertices.Vertex.TheVariants.{At}
use Rattle.go_board.specs.Board.{stone_at}
use Rattle.go_board.specs.Game.{GameRecord, board_of, IsLegal}

-- a point of the board that is empty or holds a stone of the other colour
pub record IsOpen (game : GameRecord) (colour : Colour) (p : ℕ) : Type 0 where
  pub on_board : IsOn game.size p
  pub stone : (stone_at (board_of game) p ≡ None) ⊎ (stone_at (board_of game) p ≡ Some (other colour))

-- the point has a neighbour that is open
pub record HasOpenNeighbour (game : GameRecord) (colour : Colour) (p : ℕ) : Type 0 where
  pub place : ℕ
  pub neighbours : Neighbours p place
  pub is_open : IsOpen game colour place

-- A candidate for a colour: a legal point that has a neighbour which is empty or holds a stone of the other colour.
pub record IsCandidate (game : GameRecord) (colour : Colour) (p : ℕ) : Type 0 where
  pub legal : IsLegal game colour (At p)
  pub beside : HasOpenNeighbour game colour p
