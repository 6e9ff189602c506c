-- The ko point of a colour. (Own rules of play, in Go's words.)
use Rattle.std.specs.Prelude.{◌≡◌, ℕ, ◌↔◌, Option, Some, None}
use Rattle.go_base.specs.declared.colours.Colour.{Colour}
use Rattle.go_board.specs.Board.{at}
use Rattle.go_board.specs.Game.{GameRecord, board_of, RepeatsLast}
use Rattle.go_board.specs.Play.{play}
use Rattle.go_board.specs.declared.board.Cell.TheVariants.{Empty}

-- p is an empty point on which a play of this colour would bring back the board before the last move
pub record IsKoPoint (game : GameRecord) (c : Colour) (p : ℕ) : Type 0 where
  pub empty : at (board_of game) p ≡ Empty
  pub repeats : RepeatsLast game (play (board_of game) c p)

-- it is the one ko point of the colour, and none where the colour has none
abbrev pub IsOnlyKoPoint : GameRecord → Colour → Option ℕ → Type 0
IsOnlyKoPoint game c None = (p : ℕ) → ¬ IsKoPoint game c p
IsOnlyKoPoint game c (Some only) = (p : ℕ) → IsKoPoint game c p ↔ (p ≡ only)
