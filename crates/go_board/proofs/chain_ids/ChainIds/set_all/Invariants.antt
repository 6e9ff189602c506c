use Rattle.go_board.proofs.ids.FindingIds.{IsGiving}
use Rattle.go_board.proofs.chain_ids.ChainIds.set_all.Given as goal

abbrev pub invariant-loop-index : goal.invariant-loop-index
invariant-loop-index l = IsGiving l.fn.self l.places l.id l.index l.self
