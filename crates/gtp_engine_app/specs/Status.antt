-- The statuses with which the program ends, and the lines of its failures. (Own.)
use Rattle.std.specs.Prelude.{◌≡◌, ◌⊎◌, ℕ, List, codes, Result, Ok, Err}
use Rattle.gtp_session.specs.declared.serve.Served.{Served}
use Rattle.gtp_session.specs.declared.serve.Served.TheVariants.{Quit, EndOfInput, Stopped}
use Rattle.gtp_session.specs.declared.serve.ServeFault.{ServeFault}
use Rattle.gtp_session.specs.declared.serve.ServeFault.TheVariants.{Read, Write, TooManyReads}
use Rattle.byte_streams.specs.declared.calls.WriteOnce.{Ghosts}
use Rattle.cli.specs.Failures.{IsReported}
use Rattle.cli.specs.Status.{done, no_null_device, own_failure, usage_failure}
use Rattle.gtp_engine_app.specs.declared.failure.Failure.{Failure}
use Rattle.gtp_engine_app.specs.declared.failure.Failure.TheVariants.{BadArgument, BadBook, BadFault, OutOfMemory}
use Rattle.gtp_engine_app.specs.declared.failure.Failure.TheVariants.{Serve}
use Rattle.gtp_engine_app.specs.declared.failure.Failure.TheVariants.{NoNullDevice}

-- the engine stopped at the fault that was asked for
abbrev pub stopped : ℕ
stopped = 4

abbrev pub IsStatus : ℕ → Type 0
IsStatus n = (n ≡ done) ⊎ (n ≡ usage_failure) ⊎ (n ≡ own_failure) ⊎ (n ≡ stopped)

abbrev pub status_for : Failure → ℕ
status_for BadArgument = usage_failure
status_for BadBook = usage_failure
status_for BadFault = usage_failure
status_for OutOfMemory = own_failure
status_for (Serve fault) = own_failure
status_for NoNullDevice = own_failure

-- A conversation that came to its end is done; one that stopped at the fault that was asked for has a status of its
-- own; one that stopped before its end for another cause is a failure of the program.
abbrev pub status_after : Result Served ServeFault → ℕ
status_after (Ok Quit) = done
status_after (Ok EndOfInput) = done
status_after (Ok Stopped) = stopped
status_after (Err fault) = own_failure

-- ---- what is reported of a failure

-- what a failure is called
abbrev pub failure_text : Failure → List ℕ
failure_text BadArgument = codes "bad argument"
failure_text BadBook = codes "bad book"
failure_text BadFault = codes "bad fault"
failure_text OutOfMemory = codes "out of memory"
failure_text (Serve Read) = codes "read fault"
failure_text (Serve Write) = codes "write fault"
failure_text (Serve TooManyReads) = codes "too many reads"
failure_text NoNullDevice = no_null_device

-- the program's name in the lines of failures
abbrev pub program_name : List ℕ
program_name = codes "gtp_engine"

-- the line of a failure was written, whole unless the stream broke at it
abbrev pub ReportsFailure : {E : Type 0} → Ghosts E → Failure → E → E → Type 0
ReportsFailure errs failure before after = IsReported errs program_name (failure_text failure) before after

-- Of a conversation that came to its end, or stopped at the fault that was asked for, nothing is reported; else its
-- fault is.
abbrev pub ReportsEnd : {E : Type 0} → Ghosts E → Result Served ServeFault → E → E → Type 0
ReportsEnd errs (Ok how) before after = after ≡ before
ReportsEnd errs (Err fault) before after = ReportsFailure errs (Serve fault) before after
