use Rattle.std.proofs.Common.{◌≡◌, ◌+◌, drop}
use Rattle.gtp_check_shortening.specs.Shortening.{games_in, start_of}
use Rattle.gtp_check_shortening.proofs.flat.start_of.Given as goal

-- the games don't begin so far, and these are left
abbrev pub invariant-loop-index : goal.invariant-loop-index
invariant-loop-index l = record {
  left : l.left ≡ games_in (drop l.index l.talk);
  start : start_of l.games l.talk ≡ l.index + start_of l.games (drop l.index l.talk);
}
