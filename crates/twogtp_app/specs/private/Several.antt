-- Which side's process may run before it is read.
use Rattle.std.specs.Prelude.{Bool, false, nat_lt}
use Rattle.gtp_match.specs.declared.sides.Status.{Status}
use Rattle.gtp_match.specs.declared.sides.Status.TheVariants.{Down, Up}

-- the side is up and has more than one unanswered command
abbrev pub has_several_unanswered : Status → Bool
has_several_unanswered Down = false
has_several_unanswered (Up confirmed unanswered asked) = nat_lt 1 unanswered
