-- A game's board as text. (The standard's topic showboard leaves the form to the engine; this form is own.)
use Rattle.std.specs.Prelude.{ℕ, List, [], ◌∷◌, ◌++◌, map, reverse, Option, Some, None, codes}
use Rattle.std.specs.List.{range_with_len, flat_map, join_with_byte}
use Rattle.go_base.specs.Bytes.{newline, space}
use Rattle.go_base.specs.Int.{written_int}
use Rattle.go_base.specs.Point.{point}
use Rattle.go_base.specs.Vertex.{letter_of}
use Rattle.go_base.specs.declared.colours.Colour.{Colour}
use Rattle.go_base.specs.declared.colours.Colour.TheVariants.{Black, White}
use Rattle.go_board.specs.Board.{stone_at}
use Rattle.go_board.specs.Game.{GameRecord, board_of}
use Rattle.go_board.specs.Taken.{taken}

-- a point by its stone, and the space after it: `X` is Black's, `O` is White's, and `.` is none
abbrev pub shown_point : Option Colour → List ℕ
shown_point (Some Black) = codes "X "
shown_point (Some White) = codes "O "
shown_point None = codes ". "

-- the points of a row, from column A on
unfoldable pub shown_points : GameRecord → ℕ → List ℕ
shown_points game row =
    flat_map (λ column. shown_point (stone_at (board_of game) (point column row))) (range_with_len 1 game.size)

-- a row: its points, and then its number
abbrev pub shown_row : GameRecord → ℕ → List ℕ
shown_row game row = shown_points game row ++ written_int row

-- the letters of the columns, with single spaces between them
unfoldable pub shown_letters : ℕ → List ℕ
shown_letters size = join_with_byte space (map (λ column. letter_of column ∷ []) (range_with_len 1 size))

-- how many stones Black's moves have taken, and how many White's
abbrev pub shown_captures : GameRecord → List ℕ
shown_captures game =
    codes "captures B " ++ (written_int (taken game Black) ++ (codes " W " ++ written_int (taken game White)))

-- the numbers of the rows, from the highest down to 1
abbrev pub rows_down : ℕ → List ℕ
rows_down size = reverse (range_with_len 1 size)

-- The lines of the text: the rows, the letters and the captures.
abbrev pub shown_lines : GameRecord → List (List ℕ)
shown_lines game = map (shown_row game) (rows_down game.size) ++ shown_letters game.size ∷ shown_captures game ∷ []

-- The text: its lines with a newline between each two.
unfoldable pub board_text : GameRecord → List ℕ
board_text game = join_with_byte newline (shown_lines game)
