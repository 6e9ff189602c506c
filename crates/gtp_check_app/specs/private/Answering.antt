-- What is written where the words ask for the list of lessons, and where `clap` returns no options.
use Rattle.std.specs.Prelude.{◌≡◌, ℕ, Result, String}
use Rattle.std.specs.declared.alloc.AllocError.{AllocError}
use Rattle.clap.specs.declared.error.kind.ErrorKind.{ErrorKind}
use Rattle.cli.specs.Requests.{Answers, Outputs, Shows, Writers, outputs}
use Rattle.cli.specs.Status.{own_failure, usage_failure}
use Rattle.cli.specs.declared.failure.Failure.TheVariants.{OutOfMemory}
use Rattle.gtp_check_app.specs.Checks.{IsHinted}
use Rattle.gtp_check_texts.specs.Listing.{list_lines}
use Rattle.gtp_check_app.specs.Status.{ReportsFailure, program_name}

-- The list was shown; or memory was refused for it, which is reported.
pub data Lists {O E : Type 0} (known : Writers O E) (before : Outputs O E) : ℕ → Outputs O E → Type 0 where
  shown : {status : ℕ} {after : Outputs O E} → Shows known program_name list_lines before status after
      → Lists known before status after
  refused : {reported : E} → ReportsFailure known.errors OutOfMemory before.errors reported
      → Lists known before own_failure (outputs before.output reported)

-- An error of this kind was answered, and after a mistake the hint follows where it is due.
pub data IsAnswered {A O E : Type 0} (known : Writers O E) (kind : ErrorKind) (text : Result (String A) AllocError)
    (before : Outputs O E) : ℕ → Outputs O E → Type 0 where
  answered : {status : ℕ} {between : Outputs O E} {reported : E}
      → Answers known program_name kind text before status between
      → (status ≡ usage_failure → IsHinted known.errors kind between.errors reported)
      → ((status ≡ usage_failure → ⊥) → reported ≡ between.errors)
      → IsAnswered known kind text before status (outputs between.output reported)
