use Rattle.go_board.proofs.drawing.Decided.{playouts-decided}
use Rattle.go_board.proofs.laws.playouts.words_decide.Goals as goal

pub returns : goal.returns
returns c = playouts-decided
