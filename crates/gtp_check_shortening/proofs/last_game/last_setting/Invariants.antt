use Rattle.std.proofs.Common.{◌≡◌}
use Rattle.gtp_check_shortening.specs.LastGame.{last_setting}
use Rattle.gtp_check_shortening.proofs.last_game.last_setting.Given as goal

-- the last one so far
abbrev pub invariant-loop-place : goal.invariant-loop-place
invariant-loop-place l = l.last ≡ last_setting l.what l.talk l.place
