use Rattle.go_board.proofs.ko_rules.ReplayedBoards.{IsReplayed}
use Rattle.go_board.proofs.game.Game.had_board.Given as goal

abbrev pub invariant-loop-number : goal.invariant-loop-number
invariant-loop-number l = IsReplayed l.self l.wanted l.number l.board l.stones
