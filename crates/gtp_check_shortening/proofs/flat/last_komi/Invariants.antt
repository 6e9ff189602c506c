use Rattle.std.proofs.Common.{◌≡◌, take}
use Rattle.gtp_check_shortening.specs.Shortening.{is_komi, last_such}
use Rattle.gtp_check_shortening.proofs.flat.last_komi.Given as goal

-- the last one so far
abbrev pub invariant-loop-said : goal.invariant-loop-said
invariant-loop-said l = l.last ≡ last_such is_komi (take l.said-index l.talk)
