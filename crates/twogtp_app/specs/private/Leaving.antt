-- Which processes are left before any is sent `quit`.
use Rattle.std.specs.Prelude.{◌≡◌, Bool, true, false, Option, None}
use Rattle.gtp_process.specs.declared.starter.Process.{Ghosts}
use Rattle.gtp_process.specs.Endings.{IsEnded}

-- Of a side that is up and owes nothing the process is left. Any other is ended, and none is left.
abbrev pub IsLeft : {P : Type 0} → Ghosts P → Bool → Option P → Option P → Type 0
IsLeft known true process left = left ≡ process
IsLeft known false process left = (left ≡ None) × IsEnded known process
