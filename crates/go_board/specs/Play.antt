-- A play: the stone is put down, and then the other colour's stones without a liberty are removed, all at once. (Own
-- rules of play.)
use Rattle.std.specs.Prelude.{ℕ, if◌then◌else◌, Bool, List, map, length, slice_set, count_by}
use Rattle.std.specs.List.{range_with_len}
use Rattle.go_base.specs.Colour.{other}
use Rattle.go_base.specs.declared.colours.Colour.{Colour}
use Rattle.go_board.specs.declared.board.Cell.{Cell}
use Rattle.go_board.specs.declared.board.Cell.TheVariants.{Empty}
use Rattle.go_board.specs.Board.{at, stone}
use Rattle.go_base.specs.Decide.{holds}
use Rattle.go_board.specs.decisions.Chain.{captured?}

-- whether p holds a stone of this colour, whose chain has no liberty
abbrev pub is_captured : List Cell → Colour → ℕ → Bool
is_captured board c p = holds (captured? board c p)

-- what p holds after all stones of this colour without a liberty are removed
abbrev pub left_at : List Cell → Colour → ℕ → Cell
left_at board c p = if is_captured board c p then Empty else at board p

-- the board after they are removed, all at once
unfoldable pub without_captured : List Cell → Colour → List Cell
without_captured board c = map (left_at board c) (range_with_len 0 (length board))

-- how many they are
unfoldable pub captured_count : List Cell → Colour → ℕ
captured_count board c = count_by (is_captured board c) (range_with_len 0 (length board))

-- the board after a stone of this colour is put on p
unfoldable pub play : List Cell → Colour → ℕ → List Cell
play board c p = without_captured (slice_set board p (stone c)) (other c)

-- how many stones that play takes
unfoldable pub captures : List Cell → Colour → ℕ → ℕ
captures board c p = captured_count (slice_set board p (stone c)) (other c)
