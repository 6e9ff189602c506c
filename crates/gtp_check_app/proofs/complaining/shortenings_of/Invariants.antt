use Rattle.std.proofs.Common.{◌≡◌, take}
use Rattle.gtp_check_shortening.specs.Shortening.{shortenings}
use Rattle.gtp_check_app.specs.Trials.{those_for}
use Rattle.gtp_check_app.proofs.complaining.shortenings_of.Given as goal

-- those of the ones before that are tried
abbrev pub invariant-loop-shortening : goal.invariant-loop-shortening
invariant-loop-shortening l = l.tried.items ≡ take l.trials (those_for l.talk (take l.shortening-index shortenings))
