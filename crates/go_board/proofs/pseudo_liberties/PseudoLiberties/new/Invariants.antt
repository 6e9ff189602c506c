use Rattle.go_board.proofs.liberties.CountingAll.{IsCounting}
use Rattle.go_board.proofs.pseudo_liberties.PseudoLiberties.new.Given as goal

abbrev pub invariant-loop-place : goal.invariant-loop-place
invariant-loop-place l = IsCounting l.board l.ids l.place l.counts
