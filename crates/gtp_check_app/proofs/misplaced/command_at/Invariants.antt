use Rattle.std.proofs.Common.{◌≡◌, ◌+◌, ◌-◌, drop, get_or, map, []}
use Rattle.gtp_check_app.specs.Misplaced.{before_command, command_at}
use Rattle.gtp_check_app.proofs.misplaced.command_at.Given as goal

-- those so far, and those among the others, are all
abbrev pub invariant-loop-index : goal.invariant-loop-index
invariant-loop-index g l =
    let words = map g.A.AsStr.text l.words in
    l.index + before_command (get_or words (l.index - 1) []) (drop l.index words) ≡ command_at words
