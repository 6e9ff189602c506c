-- Area and score. Every stone is alive. (Own rules of play; the score is that of the topic of final_score.)
use Rattle.std.specs.Prelude.{ℕ, ℤ, pos, ◌*ℤ◌, ◌-ℤ◌, Bool, List, count_by}
use Rattle.std.specs.List.{range_with_len}
use Rattle.go_base.specs.declared.colours.Colour.{Colour}
use Rattle.go_base.specs.declared.colours.Colour.TheVariants.{Black, White}
use Rattle.go_board.specs.declared.board.Cell.{Cell}
use Rattle.go_board.specs.Board.{place_count}
use Rattle.go_base.specs.Decide.{holds}
use Rattle.go_board.specs.decisions.Counting.{counts_for?}
use Rattle.go_board.specs.Game.{GameRecord, board_of}

-- whether a point counts for a colour
abbrev pub is_counted : List Cell → Colour → ℕ → Bool
is_counted board c p = holds (counts_for? board c p)

-- how many points count for a colour
unfoldable pub area : List Cell → Colour → ℕ
area board c = count_by (is_counted board c) (range_with_len 0 place_count)

-- the score in half points, positive for Black
unfoldable pub score : GameRecord → ℤ
score game = (pos 2 *ℤ (pos (area (board_of game) Black) -ℤ pos (area (board_of game) White))) -ℤ game.komi
