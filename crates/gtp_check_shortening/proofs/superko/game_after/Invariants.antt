use Rattle.std.proofs.Common.{◌≡◌, drop}
use Rattle.go_board.specs.Game.{fresh_game_under}
use Rattle.gtp_check_shortening.specs.Superko.{after_all}
use Rattle.gtp_check_shortening.proofs.superko.game_after.Given as goal

-- the rest of the commands goes on from here
abbrev pub invariant-loop-said : goal.invariant-loop-said
invariant-loop-said l =
    after_all (fresh_game_under l.fn.rule) l.talk ≡ after_all l.game (drop l.said-index l.talk)
