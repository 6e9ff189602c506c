use Rattle.std.proofs.Common.{◌≡◌}
use Rattle.go_board.specs.Board.{stone_at}
use Rattle.go_board.specs.Game.{board_of}
use Rattle.go_board.proofs.records.Tables.{IsTableBelow}
use Rattle.go_board.proofs.game.Game.board_into.Given as goal

abbrev pub invariant-loop-index : goal.invariant-loop-index
invariant-loop-index l =
    IsTableBelow (λ p stone. stone ≡ stone_at (board_of l.self) p) l.self.size l.index l.stones.items
