use Rattle.go_board.proofs.ids.FindingIds.{AreIdsSoFar}
use Rattle.go_board.proofs.chain_ids.ChainIds.from_board.Given as goal

abbrev pub invariant-loop-place : goal.invariant-loop-place
invariant-loop-place l = AreIdsSoFar l.board l.place l.ids
