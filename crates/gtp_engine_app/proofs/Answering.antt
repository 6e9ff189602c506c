-- What is answered where `clap` returns no options.
use Rattle.std.proofs.Common.{◌≡◌, ◌⊎◌, ℕ, List, Result, Ok, Err, String, arith, inl, inr, refl}
use Rattle.std.specs.Result.{IsOkAnd}
use Rattle.std.specs.declared.alloc.AllocError.{AllocError}
use Rattle.byte_streams.specs.declared.calls.WriteOnce.{Ghosts}
use Rattle.byte_streams.specs.Streams.{Sink}
use Rattle.clap.specs.Words.{Text}
use Rattle.clap.specs.declared.error.kind.ErrorKind.{ErrorKind}
use Rattle.clap.specs.declared.error.kind.ErrorKind.TheVariants as kinds
use Rattle.cli.specs.Requests.{IsRefused}
use Rattle.cli.specs.Status.{IsRequest, done, usage_failure}
use Rattle.gtp_engine_app.specs.Options.{HasFault}
use Rattle.gtp_engine_app.specs.Program.{HasMistake, IsOutOfMemory, IsShown}
use Rattle.gtp_engine_app.specs.Status.{IsStatus, program_name, stopped}

-- a value of which something holds
pub value_of : {T E : Type 0} (r : Result T E) (P : T → Type 0) → IsOkAnd r P → (x : T) × P x
value_of (Ok x) P holds = (x, holds)
value_of (Err e) P holds = absurd holds

-- no request for the help or the version is want of memory
pub never_both : (kind : ErrorKind) → IsRequest kind → kind ≡ kinds.OutOfMemory → ⊥
never_both kind (inl help) refused = cc (refused, help)
never_both kind (inr version) refused = cc (refused, version)

module _ {A E : Type 0} (errs : Ghosts E) (kind : ErrorKind) (text : Result (String A) AllocError) (before : E) where
  -- an error that asks for no text is a mistake of the words with status 2
  pub refused_usage : (words : List Text) → ((kind ≡ kinds.OutOfMemory → ⊥) → HasFault words kind)
      → (status : ℕ) (after : E) → IsRefused errs program_name kind text before status after
      → status ≡ usage_failure → HasMistake errs words before after
  refused_usage words has status after (IsRefused.mistake none not_refused is wrote) two =
      inl (record { kind = kind; mistake = none; has = has not_refused; text = _; written = wrote })
  refused_usage words has status after (IsRefused.no_memory why reports) two = absurd (omega (arith, two))

  -- and want of memory with any other
  pub refused_own : (status : ℕ) (after : E) → IsRefused errs program_name kind text before status after
      → (status ≡ usage_failure → ⊥) → IsOutOfMemory errs status before after
  refused_own status after (IsRefused.mistake none not_refused is wrote) other = absurd (other refl)
  refused_own status after (IsRefused.no_memory why reports) other = record { status_is = refl; reported = reports }

  pub refused_status : (status : ℕ) (after : E) → IsRefused errs program_name kind text before status after
      → IsStatus status
  refused_status status after (IsRefused.mistake none not_refused is wrote) = inr (inl refl)
  refused_status status after (IsRefused.no_memory why reports) = inr (inr (inl refl))

  -- it is never quiet
  pub refused_loud : (status : ℕ) (after : E) → IsRefused errs program_name kind text before status after
      → (status ≡ done) ⊎ (status ≡ stopped) → ⊥
  refused_loud status after (IsRefused.mistake none not_refused is wrote) (inl zero) = omega (arith, zero)
  refused_loud status after (IsRefused.mistake none not_refused is wrote) (inr four) = omega (arith, four)
  refused_loud status after (IsRefused.no_memory why reports) (inl zero) = omega (arith, zero)
  refused_loud status after (IsRefused.no_memory why reports) (inr four) = omega (arith, four)

module _ {E : Type 0} (errs : Ghosts E) (text : List ℕ) (output : Sink) (before : E) where
  -- a text that was asked for is no mistake
  pub shown_no_mistake : (status : ℕ) (written : Sink) (after : E)
      → IsShown errs text output before status written after → status ≡ usage_failure → ⊥
  shown_no_mistake status written after (IsShown.flushed took) two = omega (arith, two)
  shown_no_mistake status written after (IsShown.broke took reports) two = omega (arith, two)

  pub shown_status : (status : ℕ) (written : Sink) (after : E)
      → IsShown errs text output before status written after → IsStatus status
  shown_status status written after (IsShown.flushed took) = inl refl
  shown_status status written after (IsShown.broke took reports) = inr (inr (inl refl))

  -- where it was written nothing is reported
  pub shown_quiet : (status : ℕ) (written : Sink) (after : E)
      → IsShown errs text output before status written after → (status ≡ done) ⊎ (status ≡ stopped) → after ≡ before
  shown_quiet status written after (IsShown.flushed took) quiet = refl
  shown_quiet status written after (IsShown.broke took reports) (inl zero) = absurd (omega (arith, zero))
  shown_quiet status written after (IsShown.broke took reports) (inr four) = absurd (omega (arith, four))
