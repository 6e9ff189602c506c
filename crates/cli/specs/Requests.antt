-- What a program writes where `clap` returns no options: the help or the version, or what is wrong with the words.
-- (Own.)
use Rattle.std.specs.Prelude.{◌≡◌, ◌⊎◌, ℕ, List, Result, Ok, IsErr, String, string_bytes}
use Rattle.std.specs.declared.alloc.AllocError.{AllocError}
use Rattle.clap.specs.declared.error.kind.ErrorKind.{ErrorKind}
use Rattle.clap.specs.declared.error.kind.ErrorKind.TheVariants as kinds
use Rattle.byte_streams.specs.declared.calls.WriteOnce.{Ghosts}
use Rattle.byte_streams.specs.Writing.{BreaksAt, IsFlushed, WritesOrBreaks}
use Rattle.cli.specs.declared.failure.Failure.TheVariants.{OutOfMemory, Write}
use Rattle.cli.specs.Failures.{ReportsFailure}
use Rattle.cli.specs.Status.{IsRequest, done, own_failure, usage_failure}

-- ---- what a program writes to

-- a program's output and its standard error
pub record Outputs (O E : Type 0) : Type 0 where
  pub output : O
  pub errors : E

abbrev pub outputs : {O E : Type 0} → O → E → Outputs O E
outputs output errors = record { output = output; errors = errors }

-- what is known of both, as writers
pub record Writers (O E : Type 0) : Type 1 where
  pub output : Ghosts O
  pub errors : Ghosts E

abbrev pub writers : {O E : Type 0} → Ghosts O → Ghosts E → Writers O E
writers output errors = record { output = output; errors = errors }

-- ---- what is written

-- A text that was asked for was flushed, with status 0. Or the output broke at it, which is reported, with status 3.
pub data Shows {O E : Type 0} (known : Writers O E) (name text : List ℕ) (before : Outputs O E)
    : ℕ → Outputs O E → Type 0 where
  flushed : {written : O} → IsFlushed known.output text before.output written
      → Shows known name text before done (outputs written before.errors)
  broke : {written : O} {reported : E} → BreaksAt known.output text before.output written
      → ReportsFailure known.errors name Write before.errors reported
      → Shows known name text before own_failure (outputs written reported)

-- An error of this kind that asks for no text: a mistake in the words, whose text is written, once, with status 2. Or
-- memory was refused, for the words or for the text, which is reported, with status 3.
pub data IsRefused {A E : Type 0} (errs : Ghosts E) (name : List ℕ) (kind : ErrorKind)
    (text : Result (String A) AllocError) (errors : E)
    : ℕ → E → Type 0 where
  mistake : {said : String A} {reported : E} → ¬ IsRequest kind → (kind ≡ kinds.OutOfMemory → ⊥)
      → text ≡ Ok said → WritesOrBreaks errs (string_bytes said) errors reported
      → IsRefused errs name kind text errors usage_failure reported
  no_memory : {reported : E} → (kind ≡ kinds.OutOfMemory) ⊎ IsErr text
      → ReportsFailure errs name OutOfMemory errors reported
      → IsRefused errs name kind text errors own_failure reported

-- An error of this kind was answered: it asks for no text, and nothing was written to the output; or its text, which
-- was asked for, was shown.
pub data Answers {A O E : Type 0} (known : Writers O E) (name : List ℕ) (kind : ErrorKind)
    (text : Result (String A) AllocError) (before : Outputs O E)
    : ℕ → Outputs O E → Type 0 where
  refused : {status : ℕ} {reported : E} → IsRefused known.errors name kind text before.errors status reported
      → Answers known name kind text before status (outputs before.output reported)
  shown : {said : String A} {status : ℕ} {after : Outputs O E} → IsRequest kind → text ≡ Ok said
      → Shows known name (string_bytes said) before status after
      → Answers known name kind text before status after
