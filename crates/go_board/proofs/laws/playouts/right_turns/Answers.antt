use Rattle.go_board.proofs.drawing.RightTurns.{right-playouts}
use Rattle.go_board.proofs.laws.playouts.right_turns.Goals as goal

pub returns : goal.returns
returns c = right-playouts
