-- What the fields of `Stones` keep, and how they are seen.
use Rattle.std.specs.Prelude.{◌≡◌, ◌≢◌, ℕ, ◌+◌, ◌*◌, ◌<◌, ◌≤◌, length, slice_set}
use Rattle.go_board.specs.Board.{place_count, at, IsStone}
use Rattle.go_base.specs.Size.{most_size}
use Rattle.go_board.specs.declared.stones.Stones.TheInside.{Inside}
use Rattle.go_base.specs.declared.colours.Colour.TheVariants.{Black, White}
use Rattle.go_board.specs.private.Areas.{stones_on}
use Rattle.go_board.specs.private.Frame.{IsFramed}
use Rattle.go_board.specs.private.ChainId.{BoardWithIds, ArePseudoLiberties, id_of}
use Rattle.go_board.specs.declared.board.Cell.TheVariants.{Edge}

-- The pseudo-liberties are left out, since they follow from the board and the ids.
abbrev pub board_with_ids : Inside → BoardWithIds
board_with_ids f = record { board = f.board; ids = f.ids }

-- Each stone has an id other than 0, and each other place has id 0. Each id but 0 has its pseudo-liberties; the number
-- of 0 may be any. The board's points are in the rows of its lines. Each colour has so many stones.
pub record AreCounted (f : Inside) : Type 0 where
  pub framed : IsFramed f.board
  pub length_is : length f.ids ≡ place_count
  pub blank : (p : ℕ) → ¬ IsStone (at f.board p) → id_of f.ids p ≡ 0
  pub named : (p : ℕ) → IsStone (at f.board p) → id_of f.ids p ≢ 0
  pub counts : ArePseudoLiberties f.board f.ids (slice_set f.counts 0 0)
  pub few : f.lines ≤ most_size
  pub rows : (p : ℕ) → at f.board p ≢ Edge → p < 26 * (f.lines + 1)
  pub black_is : f.black ≡ stones_on f.board Black
  pub white_is : f.white ≡ stones_on f.board White
