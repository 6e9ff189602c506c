use Rattle.go_board.proofs.liberties.StonesFields.{IsJoiningRows}
use Rattle.go_board.proofs.chain_ids.ChainIds.join.Given as goal

abbrev pub invariant-loop-place : goal.invariant-loop-place
invariant-loop-place l = IsJoiningRows l.fn.self l.to l.a l.b l.c l.place l.self-inside.ids
