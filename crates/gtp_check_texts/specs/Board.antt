-- The board that is drawn in a complaint. (Own.)
use Rattle.std.specs.Prelude.{◌≡◌, ℕ, ◌≤◌, ◌++◌, List, [], None, codes, if◌then◌else◌}
use Rattle.std.specs.List.{flat_map}
use Rattle.go_base.specs.Decide.{holds}
use Rattle.go_base.specs.Point.{point}
use Rattle.go_board.specs.Board.{stone_at}
use Rattle.go_board.specs.Game.{GameRecord, board_of}
use Rattle.go_board.specs.Show.{board_text}
use Rattle.go_board.specs.decisions.Game.{stone?}
use Rattle.gtp_check_texts.specs.Lines.{all_but_last, lines_of}

-- a line that engines skip, since it begins with `#`
abbrev pub comment_line : List ℕ → List ℕ
comment_line line = codes "# " ++ (line ++ codes "\n")

-- The board as it is shown, each line after `# `: its rows and the letters of the columns. The last line, that of the
-- captures, is left out.
abbrev pub drawn_lines : GameRecord → List ℕ
drawn_lines game = flat_map comment_line (all_but_last (lines_of (board_text game)))

-- The drawing of the board, where it has a stone.
abbrev pub drawn_board : GameRecord → List ℕ
drawn_board game = if holds (stone? (board_of game)) then drawn_lines game else []

-- no point of this row has a stone
abbrev pub IsBlankRow : GameRecord → ℕ → Type 0
IsBlankRow game row = (column : ℕ) → 1 ≤ column → column ≤ game.size
    → stone_at (board_of game) (point column row) ≡ None
