-- A hash of a position: its size, its board, the colour to move, and that colour's ko point.
use Rattle.std.specs.Prelude.{◌≡◌, ℕ, ◌+◌, ◌%◌, ◌^◌, List, Option, Some, None}
use Rattle.go_base.specs.declared.colours.Colour.{Colour}
use Rattle.go_base.specs.declared.colours.Colour.TheVariants.{Black, White}
use Rattle.go_board.specs.declared.board.Cell.{Cell}
use Rattle.go_board.specs.Game.{GameRecord, board_of}
use Rattle.go_board.specs.Hash.{key, hash_of}
use Rattle.go_board.specs.KoPoint.{IsOnlyKoPoint}

-- the number of a colour to move: those of stones and of sizes are less
abbrev pub mover_number : Colour → ℕ
mover_number Black = 1430
mover_number White = 1431

-- the key of the colour to move
unfoldable pub mover_key : Colour → ℕ
mover_key c = key (mover_number c)

-- the key of a ko point: all other numbers are less than its own
unfoldable pub ko_key : ℕ → ℕ
ko_key p = key (1432 + p)

-- what a ko point adds, where there is one
abbrev pub ko_part : Option ℕ → ℕ
ko_part None = 0
ko_part (Some p) = ko_key p

-- the hash of the board, with the key of the colour to move and that of its ko point
unfoldable pub position_hash : ℕ → List Cell → Colour → Option ℕ → ℕ
position_hash size board c ko = (hash_of size board + mover_key c + ko_part ko) % 2 ^ 64

-- it is the hash of the game's position with this colour to move
pub record IsPositionHash (game : GameRecord) (c : Colour) (hash : ℕ) : Type 0 where
  pub ko : Option ℕ
  pub ko_is : IsOnlyKoPoint game c ko
  pub hash_is : hash ≡ position_hash game.size (board_of game) c ko
