-- What a program reports in a line of its own: why it can't go on, and what is wrong with its words. (Own.)
use Rattle.std.specs.Prelude.{ℕ, List, codes}
use Rattle.byte_streams.specs.declared.calls.WriteOnce.{Ghosts}
use Rattle.byte_streams.specs.Writing.{WritesOrBreaks}
use Rattle.cli.specs.declared.failure.Failure.{Failure}
use Rattle.cli.specs.declared.failure.Failure.TheVariants as failure
use Rattle.cli.specs.declared.failure.PlanError.{PlanError}
use Rattle.cli.specs.declared.failure.PlanError.TheVariants.{BadWords, OutOfMemory}
use Rattle.cli.specs.Status.{error_line, no_null_device, own_failure, usage_failure}

-- what a failure of a program is called
abbrev pub failure_text : Failure → List ℕ
failure_text failure.Write = codes "write fault"
failure_text failure.OutOfMemory = codes "out of memory"
failure_text failure.TooManyTurns = codes "too many turns"
failure_text failure.NoNullDevice = no_null_device

-- the line `NAME: TEXT` was written, whole unless the stream broke at it
abbrev pub IsReported : {E : Type 0} → Ghosts E → List ℕ → List ℕ → E → E → Type 0
IsReported errs name text before after = WritesOrBreaks errs (error_line name text) before after

-- the program of this name reported a failure
abbrev pub ReportsFailure : {E : Type 0} → Ghosts E → List ℕ → Failure → E → E → Type 0
ReportsFailure errs name what before after = IsReported errs name (failure_text what) before after

-- ---- words that come to no plan

-- the status with which that is reported: 2 for a mistake, and 3 for want of memory
abbrev pub plan_error_status : {M : Type 0} → PlanError M → ℕ
plan_error_status (BadWords what) = usage_failure
plan_error_status OutOfMemory = own_failure

-- what the error is called, of a program whose mistakes are called so
abbrev pub plan_error_text : {M : Type 0} → (M → List ℕ) → PlanError M → List ℕ
plan_error_text called (BadWords what) = called what
plan_error_text called OutOfMemory = failure_text failure.OutOfMemory
