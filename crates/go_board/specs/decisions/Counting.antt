-- Whether a point counts for a colour.
use Rattle.std.specs.Prelude.{ℕ, List}
use Rattle.go_base.specs.Colour.{other}
use Rattle.go_base.specs.Decide.{both?, either?, not?}
use Rattle.go_base.specs.declared.colours.Colour.{Colour}
use Rattle.go_board.specs.declared.board.Cell.{Cell}
use Rattle.go_board.specs.declared.board.Cell.TheVariants.{Empty}
use Rattle.go_board.specs.Board.{at, stone}
use Rattle.go_board.specs.Counting.{CountsFor}
use Rattle.go_board.specs.decisions.Board.{cell?}
use Rattle.go_board.specs.decisions.Chain.{touches?}

abbrev pub counts_for? : (board : List Cell) (c : Colour) (p : ℕ) → Dec (CountsFor board c p)
counts_for? board c p =
    either? (cell? (at board p) (stone c))
    (both? (cell? (at board p) Empty) (both? (touches? board p (stone c)) (not? (touches? board p (stone (other c))))))
