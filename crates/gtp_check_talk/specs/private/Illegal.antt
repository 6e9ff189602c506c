-- How what is due tells a `play` that isn't legal.
use Rattle.std.specs.Prelude.{Bool, true, false}
use Rattle.gtp_check_judge.specs.declared.dues.Cause.TheVariants.{BadMove}
use Rattle.gtp_check_judge.specs.declared.dues.Due.{Due}
use Rattle.gtp_check_judge.specs.declared.dues.Due.TheVariants.{Fails}

-- a failure is due, since a move isn't legal
abbrev pub is_bad_move : Due → Bool
is_bad_move (Fails (BadMove fault)) = true
is_bad_move _ = false
