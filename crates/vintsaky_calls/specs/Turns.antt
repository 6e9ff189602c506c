-- Whose turn it is in a game.
use Rattle.std.specs.Prelude.{◌≡◌, ◌≢◌, ℕ, List, [], ◌∷◌, ◌++◌}
use Rattle.go_base.specs.Colour.{other}
use Rattle.go_base.specs.declared.colours.Colour.{Colour}
use Rattle.go_base.specs.declared.colours.Colour.TheVariants.{Black, White}
use Rattle.go_base.specs.declared.moves.Move.{Move}
use Rattle.go_board.specs.Game.{GameRecord}
use Rattle.vintsaky_calls.specs.Codes.{colour_code}

-- It is this colour's turn. Without a move Black begins, or White where handicap stones were placed. Else it is the
-- other colour than that of the last move.
pub record IsTurn (game : GameRecord) (c : Colour) : Type 0 where
  pub begins : game.moves ≡ [] → game.handicap ≡ 0 → c ≡ Black
  pub after_handicap : game.moves ≡ [] → game.handicap ≢ 0 → c ≡ White
  pub goes_on : (before : List Move) (last : Move) → game.moves ≡ before ++ last ∷ [] → c ≡ other last.colour

-- the number of the colour whose turn it is
pub record HasTurn (game : GameRecord) (number : ℕ) : Type 0 where
  pub c : Colour
  pub turn : IsTurn game c
  pub number_is : number ≡ colour_code c
