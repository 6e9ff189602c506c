use Rattle.std.proofs.Common.{◌≡◌, ◌+◌, drop}
use Rattle.gtp_check_app.specs.Trials.{most_between, own_spaced}
use Rattle.gtp_check_app.proofs.trials.own_spaced.Given as goal

-- those so far, and those among the others, are all
abbrev pub invariant-loop-own : goal.invariant-loop-own
invariant-loop-own l =
    l.own + own_spaced l.left (drop l.own l.commands) l.rest ≡ own_spaced most_between l.commands l.count
