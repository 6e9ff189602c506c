use Rattle.std.proofs.Common.{◌≡◌, ◌++◌, drop}
use Rattle.gtp_check_app.specs.Trials.{most_between, spaced}
use Rattle.gtp_check_app.proofs.trials.add_spaced.Given as goal

-- those so far, and then the others, are all
abbrev pub invariant-loop-command : goal.invariant-loop-command
invariant-loop-command l =
    l.all.items ++ spaced l.left (drop l.command-index l.commands)
    ≡ l.initial.all.items ++ spaced most_between l.commands
