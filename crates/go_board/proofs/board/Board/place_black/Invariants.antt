use Rattle.std.proofs.Common.{take}
use Rattle.go_board.proofs.boards.FirstBoard.{IsAdding}
use Rattle.go_board.proofs.board.Board.place_black.Given as goal

abbrev pub invariant-loop-point : goal.invariant-loop-point
invariant-loop-point l = IsAdding l.fn.self (take l.point-index l.points) l.self-inside.cells
