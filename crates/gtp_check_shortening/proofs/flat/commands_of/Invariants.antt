use Rattle.std.proofs.Common.{◌≡◌, take}
use Rattle.gtp_check_talk.specs.Said.{commands_of}
use Rattle.gtp_check_shortening.proofs.flat.commands_of.Given as goal

-- those so far
abbrev pub invariant-loop-said : goal.invariant-loop-said
invariant-loop-said l = l.commands.items ≡ commands_of (take l.said-index l.talk)
