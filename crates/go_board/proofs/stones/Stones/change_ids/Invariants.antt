use Rattle.std.proofs.Common.{◌≡◌}
use Rattle.go_board.proofs.ids.FindingIds.{IsGiving}
use Rattle.go_board.proofs.stones.Stones.change_ids.Given as goal

abbrev pub invariant-loop-index : goal.invariant-loop-index
invariant-loop-index l = record {
  same : l.self.board ≡ l.fn.self.board;
  giving : IsGiving l.fn.self.ids l.chain l.id l.index l.self.ids;
}
