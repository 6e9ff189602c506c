use Rattle.std.proofs.Common.{length}
use Rattle.go_board.specs.Board.{stone}
use Rattle.go_board.proofs.undo.RestoredStones.{IsRestoring}
use Rattle.go_board.proofs.chains.Chains.restore.Given as goal

abbrev pub invariant-loop-place : goal.invariant-loop-place
invariant-loop-place l =
    IsRestoring l.fn.self (stone l.fn.colour) l.fn.number l.fn.stack l.stack l.self l.count

abbrev pub decreases-loop-place : goal.decreases-loop-place
decreases-loop-place l = length l.stack
