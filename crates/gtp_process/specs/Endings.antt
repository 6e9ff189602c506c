-- How a process ended. (Own.)
use Rattle.std.specs.Prelude.{◌≡◌, ℕ, ℤ, ◌==◌, if◌then◌else◌, Option, None, Some, unsigned_abs}
use Rattle.gtp_process.specs.declared.starter.Process.{Ghosts}
use Rattle.gtp_process.specs.declared.starter.Ending.{Ending}
use Rattle.gtp_process.specs.declared.starter.Ending.TheVariants.{Unknown, Status, Signal, Running}

-- A process, if there is one, ended so. Where there is none, no ending is known.
abbrev pub EndsAs : {P : Type 0} → Ghosts P → Option P → Ending → Type 0
EndsAs known None ending = ending ≡ Unknown
EndsAs known (Some process) ending = known.leaves process ending

-- a process, if there is one, ended in some way
abbrev pub IsEnded : {P : Type 0} → Ghosts P → Option P → Type 0
IsEnded known None = Unit {0}
IsEnded known (Some process) = (ending : Ending) × known.leaves process ending

-- How a process ended, as the system tells it: by itself, with this status, or else by this signal, or in no way that it
-- tells.
abbrev pub reported_ending : Option ℤ → Option ℤ → Ending
reported_ending (Some status) signal = Status (unsigned_abs status)
reported_ending None (Some signal) = Signal (unsigned_abs signal)
reported_ending None None = Unknown

-- the number of the signal that kills a process
abbrev pub kill_signal : ℕ
kill_signal = 9

-- How a process ended that still ran when it was killed, by what the system tells then. Where that is the signal of the
-- kill, it ran until then. Else it ended by itself just before.
abbrev pub after_kill : Ending → Ending
after_kill (Signal number) = if number == kill_signal then Running else Signal number
after_kill ending = ending
