use Rattle.std.proofs.Common.{◌≡◌, ◌++◌, drop}
use Rattle.gtp_check_shortening.specs.Played.{played}
use Rattle.gtp_check_shortening.proofs.played.played.Given as goal

-- what was done by the commands before here, and by the others
abbrev pub invariant-loop-index : goal.invariant-loop-index
invariant-loop-index l = l.all.items ++ played (drop l.index l.talk) ≡ played l.talk
