-- What is answered where `clap` returns no options.
use Rattle.std.proofs.Common.{◌≡◌, ◌⊎◌, ℕ, List, Result, String, arith, inl, inr, refl}
use Rattle.std.specs.declared.alloc.AllocError.{AllocError}
use Rattle.byte_streams.specs.declared.calls.WriteOnce.{Ghosts}
use Rattle.clap.specs.Words.{Text}
use Rattle.clap.specs.declared.error.kind.ErrorKind.{ErrorKind}
use Rattle.clap.specs.declared.error.kind.ErrorKind.TheVariants as kinds
use Rattle.cli.specs.declared.failure.Failure.TheVariants.{OutOfMemory, Write}
use Rattle.cli.specs.declared.failure.PlanError.{PlanError}
use Rattle.cli.specs.declared.failure.PlanError.TheVariants.{BadWords, OutOfMemory as PlanOutOfMemory}
use Rattle.cli.specs.Failures.{plan_error_status}
use Rattle.cli.specs.Requests.{Answers, IsRefused, Outputs, Shows, Writers}
use Rattle.cli.specs.Status.{IsRequest, done, own_failure, usage_failure}
use Rattle.twogtp_app.specs.declared.failure.Mistake.{Mistake}
use Rattle.twogtp_app.specs.declared.options.Options.{Options}
use Rattle.twogtp_app.specs.Games.{HasMistake, HasShown}
use Rattle.twogtp_app.specs.Mistakes.{ReportsNoPlan}
use Rattle.twogtp_app.specs.Options.{HasFault}
use Rattle.twogtp_app.specs.Status.{IsStatus, ReportsFailure, program_name, some_given_up}

-- an error that isn't want of memory is a fault of the words
fault_of_words : {F : Type 0} (kind : ErrorKind) → (kind ≡ kinds.OutOfMemory) ⊎ F → (kind ≡ kinds.OutOfMemory → ⊥) → F
fault_of_words kind (inl refused) not_refused = absurd (not_refused refused)
fault_of_words kind (inr has) not_refused = has

-- no request for the help or the version is want of memory
never_both : (kind : ErrorKind) → IsRequest kind → kind ≡ kinds.OutOfMemory → ⊥
never_both kind (inl help) refused = cc (refused, help)
never_both kind (inr version) refused = cc (refused, version)

-- with status 3 an error of a plan is want of memory, which is reported
pub plan_error_stopped : {E : Type 0} (errs : Ghosts E) (options : Options) (error : PlanError Mistake) (status : ℕ)
    (before after : E)
    → status ≡ plan_error_status error → ReportsNoPlan errs options error before after → status ≡ own_failure
    → ReportsFailure errs OutOfMemory before after
plan_error_stopped errs options (BadWords what) status before after is reports three =
    absurd (omega (arith, is, three))
plan_error_stopped errs options PlanOutOfMemory status before after is reports three = reports

module _ {A O E : Type 0} (known : Writers O E) (kind : ErrorKind) (text : Result (String A) AllocError)
    (before : Outputs O E) where
  pub answered_status : (status : ℕ) (after : Outputs O E)
      → Answers known program_name kind text before status after → IsStatus status
  answered_status status after (Answers.refused (IsRefused.mistake none not_refused is wrote)) =
      inr (inr (inl refl))
  answered_status status after (Answers.refused (IsRefused.no_memory why reports)) = inr (inr (inr refl))
  answered_status status after (Answers.shown asks is (Shows.flushed went)) = inl refl
  answered_status status after (Answers.shown asks is (Shows.broke broke reports)) = inr (inr (inr refl))

  -- with a status of games nothing is written to standard error
  pub answered_quiet : (status : ℕ) (after : Outputs O E)
      → Answers known program_name kind text before status after
      → (status ≡ done) ⊎ (status ≡ some_given_up) → after.errors ≡ before.errors
  answered_quiet status after (Answers.refused (IsRefused.mistake none not_refused is wrote)) range =
      absurd (elim range [ inl zero ↦ omega (arith, zero) | inr one ↦ omega (arith, one) ])
  answered_quiet status after (Answers.refused (IsRefused.no_memory why reports)) range =
      absurd (elim range [ inl zero ↦ omega (arith, zero) | inr one ↦ omega (arith, one) ])
  answered_quiet status after (Answers.shown asks is (Shows.flushed went)) range = refl
  answered_quiet status after (Answers.shown asks is (Shows.broke broke reports)) range =
      absurd (elim range [ inl zero ↦ omega (arith, zero) | inr one ↦ omega (arith, one) ])

  module _ (words : List Text) (fault : (kind ≡ kinds.OutOfMemory) ⊎ HasFault words kind) where
    -- with status 2 the words have a mistake, and nothing is written to the output
    pub answered_usage : (status : ℕ) (after : Outputs O E) → Answers known program_name kind text before status after
        → status ≡ usage_failure
        → HasMistake known.errors words before.errors after.errors × (after.output ≡ before.output)
    answered_usage status after (Answers.refused (IsRefused.mistake none not_refused is wrote)) two = (
      inl (record {
        kind = kind;
        mistake = none;
        has = fault_of_words kind fault not_refused;
        text = _;
        written = wrote;
      }),
      refl,
    )
    answered_usage status after (Answers.refused (IsRefused.no_memory why reports)) two =
        absurd (omega (arith, two))
    answered_usage status after (Answers.shown asks is (Shows.flushed went)) two = absurd (omega (arith, two))
    answered_usage status after (Answers.shown asks is (Shows.broke broke reports)) two =
        absurd (omega (arith, two))

    -- with a status of games a text that was asked for was flushed
    pub answered_played : (status : ℕ) (after : Outputs O E)
        → Answers known program_name kind text before status after
        → (status ≡ done) ⊎ (status ≡ some_given_up) → HasShown known.output words status before.output after.output
    answered_played status after (Answers.refused (IsRefused.mistake none not_refused is wrote)) range =
        absurd (elim range [ inl zero ↦ omega (arith, zero) | inr one ↦ omega (arith, one) ])
    answered_played status after (Answers.refused (IsRefused.no_memory why reports)) range =
        absurd (elim range [ inl zero ↦ omega (arith, zero) | inr one ↦ omega (arith, one) ])
    answered_played status after (Answers.shown asks is (Shows.flushed went)) range = record {
      asked = (kind, asks, fault_of_words kind fault (never_both kind asks));
      text = _;
      shown = inl (refl, went);
    }
    answered_played status after (Answers.shown asks is (Shows.broke broke reports)) range =
        absurd (elim range [ inl zero ↦ omega (arith, zero) | inr one ↦ omega (arith, one) ])

    -- with status 3 memory was refused, or the output broke at a text that was asked for; either is reported
    pub answered_stopped : (status : ℕ) (after : Outputs O E)
        → Answers known program_name kind text before status after → status ≡ own_failure
        → ((after.output ≡ before.output) × ReportsFailure known.errors OutOfMemory before.errors after.errors)
        ⊎ (HasShown known.output words status before.output after.output
        × ReportsFailure known.errors Write before.errors after.errors)
    answered_stopped status after (Answers.refused (IsRefused.mistake none not_refused is wrote)) three =
        absurd (omega (arith, three))
    answered_stopped status after (Answers.refused (IsRefused.no_memory why reports)) three =
        inl (refl, reports)
    answered_stopped status after (Answers.shown asks is (Shows.flushed went)) three =
        absurd (omega (arith, three))
    answered_stopped status after (Answers.shown asks is (Shows.broke broke reports)) three =
        inr (
          record {
            asked = (kind, asks, fault_of_words kind fault (never_both kind asks));
            text = _;
            shown = inr (refl, broke);
          },
          reports,
        )
