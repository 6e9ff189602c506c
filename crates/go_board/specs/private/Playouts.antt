-- Steps of a playout.
use Rattle.std.specs.Prelude.{◌≡◌, ℕ, ◌==◌, ◌+◌, ◌<◌, ◌≤◌, ◌↔◌, if◌then◌else◌, List, ◌++◌, length, Contains}
use Rattle.std.specs.List.{AllPairs, sum_by}
use Rattle.go_base.specs.declared.colours.Colour.{Colour}
use Rattle.go_base.specs.declared.vertices.Vertex.{Vertex}
use Rattle.go_base.specs.declared.vertices.Vertex.TheVariants.{At}
use Rattle.go_board.specs.declared.board.Cell.{Cell}
use Rattle.go_board.specs.declared.board.Cell.TheVariants.{Empty}
use Rattle.go_board.specs.Board.{at, place_count}
use Rattle.go_board.specs.Candidates.{IsCandidate}
use Rattle.go_board.specs.Game.{GameRecord, with_move}
use Rattle.go_board.specs.LastTaken.{AreTakenByLast}
use Rattle.go_board.specs.Playouts.{GivesWords, Draws, IsTurn, IsPlayout}
use Rattle.go_board.specs.private.ChainId.{empty_at}

-- 1 where two places are one
abbrev pub same_place : ℕ → ℕ → ℕ
same_place p q = if q == p then 1 else 0

-- how often an order has a place
abbrev pub times : List ℕ → ℕ → ℕ
times order p = sum_by (same_place p) order

-- the order has each empty point of the board once, and no other place
abbrev pub IsOrderOf : List Cell → List ℕ → Type 0
IsOrderOf board order = (p : ℕ) → times order p ≡ empty_at board p

-- the list has the empty points below n, and no other place, in order, and at most n
pub record AreEmptyBelow (board : List Cell) (n : ℕ) (points : List ℕ) : Type 0 where
  pub each : (p : ℕ) → Contains points p ↔ ((p < n) × (at board p ≡ Empty))
  pub in_order : AllPairs (λ p q. p < q) points
  pub few : length points ≤ n

-- there is room for the points of the stones that the last move took
abbrev pub HasRoomForTaken : GameRecord → List ℕ → Type 0
HasRoomForTaken game order =
    (taken : List ℕ) → AreTakenByLast game taken → length order + length taken ≤ place_count

-- the points of the stones that the last move took came behind
pub record IsWithTaken (game : GameRecord) (old new : List ℕ) : Type 0 where
  pub taken : List ℕ
  pub are : AreTakenByLast game taken
  pub is : new ≡ old ++ taken

-- the colour has played the point, which is a candidate of it
pub record IsPlayed (old new : GameRecord) (c : Colour) (p : ℕ) : Type 0 where
  pub candidate : IsCandidate old c p
  pub played : new ≡ with_move old c (At p)

-- the point is no candidate of the colour, and the game is as it was
pub record IsNotPlayed (old new : GameRecord) (c : Colour) (p : ℕ) : Type 0 where
  pub none : ¬ IsCandidate old c p
  pub same : new ≡ old

-- words of a source draw the vertex among the first n points of the order, and leave the order `left`
pub record AreDrawn {W : Type 0} (gives : W → ℕ → W → Type 0) (game : GameRecord) (c : Colour) (n : ℕ)
    (order : List ℕ) (old : W) (v : Vertex) (left : List ℕ) (new : W) : Type 0 where
  pub words : List ℕ
  pub given : GivesWords gives old words new
  pub draws : Draws game c n order words v left

-- the colour has taken its turn
pub record IsTurnTaken {W : Type 0} (gives : W → ℕ → W → Type 0) (game : GameRecord) (c : Colour) (order : List ℕ)
    (old : W) (after : GameRecord) (left : List ℕ) (new : W) : Type 0 where
  pub vertex : Vertex
  pub words : List ℕ
  pub given : GivesWords gives old words new
  pub turn : IsTurn game c order words vertex left
  pub is : after ≡ with_move game c vertex

-- a playout that begins with this order
pub record IsPlayedOn {W : Type 0} (gives : W → ℕ → W → Type 0) (game : GameRecord) (c : Colour) (order : List ℕ)
    (limit : ℕ) (old : W) (after : GameRecord) (new : W) : Type 0 where
  pub words : List ℕ
  pub given : GivesWords gives old words new
  pub playout : IsPlayout game c order limit words after
