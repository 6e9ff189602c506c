-- What a run of the program did.
use Rattle.std.proofs.Common.{◌≡◌, ◌⊎◌, ℕ, Bool, true, false, List, inl, inr, refl, nat_lt, arith}
use Rattle.std.specs.Prelude.{if◌then◌else◌, Result, String}
use Rattle.std.specs.declared.alloc.AllocError.{AllocError}
use Rattle.clap.specs.Words.{Text}
use Rattle.clap.specs.declared.error.kind.ErrorKind.{ErrorKind}
use Rattle.clap.specs.declared.error.kind.ErrorKind.TheVariants.{OutOfMemory as ClapOutOfMemory}
use Rattle.byte_streams.specs.declared.calls.WriteOnce.{Ghosts as WriterGhosts}
use Rattle.gtp_process.specs.Starts.{Attempts}
use Rattle.cli.specs.Failures.{IsReported, plan_error_status, plan_error_text}
use Rattle.cli.specs.Requests.{Answers, IsRefused, Outputs, Shows, Writers, writers}
use Rattle.cli.specs.Status.{IsRequest, done, usage_failure}
use Rattle.cli.specs.declared.failure.PlanError.{PlanError}
use Rattle.cli.specs.declared.failure.PlanError.TheVariants.{BadWords, OutOfMemory}
use Rattle.gtp_check_app.specs.declared.failure.Mistake.{Mistake}
use Rattle.gtp_check_app.specs.declared.options.Options.{Options}
use Rattle.gtp_check_app.specs.declared.streams.Streams.{Streams}
use Rattle.gtp_check_app.specs.Checks.{AsksForList, HasRun, IsHeld, IsHinted, missed_from, outputs_of}
use Rattle.gtp_check_app.specs.Misplaced.{Reports, has_words_after}
use Rattle.gtp_check_app.specs.Options.{AsksFor, HasFault}
use Rattle.gtp_check_app.specs.Plans.{HasNoPlan}
use Rattle.gtp_check_app.specs.Sequence.{Beginning, Known}
use Rattle.gtp_check_app.specs.Status.{IsStatus, is_earned, not_earned, program_name, something_found}
use Rattle.gtp_check_app.specs.Mistakes.{mistake_text}
use Rattle.gtp_check_app.specs.private.Answering.{IsAnswered, Lists}

-- no request for the help or the version is want of memory
never_both : (kind : ErrorKind) → kind ≡ ClapOutOfMemory → IsRequest kind → ⊥
never_both kind refused (inl help) = cc (refused, help)
never_both kind refused (inr version) = cc (refused, version)

module _ {P O E : Type 0} (known : Known P O E) (words : List Text) (shows_progress : Bool) (asked : Attempts P)
    (streams : Streams O E) where
  -- where `clap` returns an error
  clap_said : {A : Type 0} (kind : ErrorKind) (text : Result (String A) AllocError)
      → (kind ≡ ClapOutOfMemory) ⊎ HasFault words kind
      → (status : ℕ) (between : Outputs O E) (reported : E)
      → Answers (writers known.outs known.errs) program_name kind text (outputs_of streams) status between
      → (status ≡ usage_failure → IsHinted known.errs kind between.errors reported)
      → ((status ≡ usage_failure → ⊥) → reported ≡ between.errors)
      → HasRun known words shows_progress asked streams status asked
      (record { output = between.output; errors = reported })
  clap_said kind text fault status between reported (Answers.refused (IsRefused.mistake none not_refused is wrote))
      hinted no_hint =
      HasRun.mistaken (inr (inl (record {
        kind = kind;
        mistake = none;
        has = elim fault [ inl refused ↦ absurd (not_refused refused) | inr has ↦ has ];
        text = _;
        between = _;
        written = wrote;
        hinted = hinted refl;
      })))
  clap_said kind text fault status between reported (Answers.refused (IsRefused.no_memory why reports))
      hinted no_hint =
      rw (no_hint (λ is. absurd (omega (arith, is)))) (HasRun.no_memory reports)
  clap_said kind text fault status between reported (Answers.shown asks is (Shows.flushed goes)) hinted no_hint =
      rw (no_hint (λ e. absurd (omega (arith, e))))
      (HasRun.shown _
      (kind, asks, elim fault [ inl refused ↦ absurd (never_both kind refused asks) | inr has ↦ has ])
      (Shows.flushed goes))
  clap_said kind text fault status between reported (Answers.shown asks is (Shows.broke breaks reports))
      hinted no_hint =
      rw (no_hint (λ e. absurd (omega (arith, e))))
      (HasRun.shown _
      (kind, asks, elim fault [ inl refused ↦ absurd (never_both kind refused asks) | inr has ↦ has ])
      (Shows.broke breaks reports))

  pub clap_ran : {A : Type 0} (kind : ErrorKind) (text : Result (String A) AllocError)
      → (kind ≡ ClapOutOfMemory) ⊎ HasFault words kind → (status : ℕ) (after : Outputs O E)
      → IsAnswered (writers known.outs known.errs) kind text (outputs_of streams) status after
      → HasRun known words shows_progress asked streams status asked
      (record { output = after.output; errors = after.errors })
  clap_ran kind text fault status after
      (IsAnswered.answered {between = between} {reported = reported} answers hinted no_hint) =
      clap_said kind text fault status between reported answers hinted no_hint

  -- where the words ask for the list
  pub list_ran : AsksForList words → (status : ℕ) (after : Outputs O E)
      → Lists (writers known.outs known.errs) (outputs_of streams) status after
      → HasRun known words shows_progress asked streams status asked
      (record { output = after.output; errors = after.errors })
  list_ran asks status after (Lists.shown shows) = HasRun.listed asks shows
  list_ran asks status after (Lists.refused reports) = HasRun.no_memory reports

  -- where the options come to no plan
  pub no_plan_ran : (options : Options) → AsksFor words options → (error : PlanError Mistake) → HasNoPlan options error
      → (status : ℕ) (reported : E) → status ≡ plan_error_status error
      → IsReported known.errs program_name (plan_error_text mistake_text error) streams.errors reported
      → HasRun known words shows_progress asked streams status asked (record streams { errors = reported })
  no_plan_ran options asks (BadWords what) none status reported is reports =
      rw is
      (HasRun.mistaken (inr (inr (record {
        options = options;
        asked = asks;
        what = what;
        mistake = none;
        reported = reports;
      }))))
  no_plan_ran options asks OutOfMemory none status reported is reports = rw is (HasRun.no_memory reports)

  -- where options follow on the engine's command
  pub misplaced_ran : (options : Options) → AsksFor words options → has_words_after words ≡ true
      → (status : ℕ) (reported : E) → Reports known.errs words streams.errors status reported
      → HasRun known words shows_progress asked streams status asked (record streams { errors = reported })
  misplaced_ran options asks follow status reported (Reports.reported written) =
      HasRun.mistaken (inl (record { options = options; asked = asks; follow = follow; written = written }))
  misplaced_ran options asks follow status reported (Reports.refused reports) = HasRun.no_memory reports

-- ---- each status is one of the five

pub misplaced_status : {E : Type 0} {errs : WriterGhosts E} {words : List Text} {before : E} (status : ℕ) (after : E)
    → Reports errs words before status after → IsStatus status
misplaced_status status after (Reports.reported written) = inr (inr (inl refl))
misplaced_status status after (Reports.refused reports) = inr (inr (inr (inl refl)))

shown_status : {O E : Type 0} {known : Writers O E} {name text : List ℕ} {before : Outputs O E} (status : ℕ)
    (after : Outputs O E) → Shows known name text before status after → IsStatus status
shown_status status after (Shows.flushed goes) = inl refl
shown_status status after (Shows.broke breaks reports) = inr (inr (inr (inl refl)))

pub listed_status : {O E : Type 0} {known : Writers O E} {before : Outputs O E} (status : ℕ) (after : Outputs O E)
    → Lists known before status after → IsStatus status
listed_status status after (Lists.shown shows) = shown_status status after shows
listed_status status after (Lists.refused reports) = inr (inr (inr (inl refl)))

said_status : {A O E : Type 0} {known : Writers O E} {name : List ℕ} {kind : ErrorKind}
    {text : Result (String A) AllocError} {before : Outputs O E} (status : ℕ) (after : Outputs O E)
    → Answers known name kind text before status after → IsStatus status
said_status status after (Answers.refused (IsRefused.mistake none not_refused is wrote)) = inr (inr (inl refl))
said_status status after (Answers.refused (IsRefused.no_memory why reports)) = inr (inr (inr (inl refl)))
said_status status after (Answers.shown asks is shows) = shown_status status after shows

pub answered_status : {A O E : Type 0} {known : Writers O E} {kind : ErrorKind}
    {text : Result (String A) AllocError} {before : Outputs O E} (status : ℕ) (after : Outputs O E)
    → IsAnswered known kind text before status after → IsStatus status
answered_status status after (IsAnswered.answered {between = between} answers hinted no_hint) =
    said_status status between answers

found_status : (some earned : Bool)
    → IsStatus (if some then something_found else (if earned then done else not_earned))
found_status true earned = inr (inl refl)
found_status false true = inl refl
found_status false false = inr (inr (inr (inr refl)))

pub held_status : {P O E : Type 0} {known : Known P O E} (begins : Beginning P O E) (status : ℕ) {has : Attempts P}
    {after : Streams O E} → IsHeld known begins status has after → IsStatus status
held_status begins status (IsHeld.is_over {last = last} turns shown started closed lines goes) =
    found_status (nat_lt 0 last.now.state.tally.complaints)
    (is_earned begins.plan.lessons.items (missed_from begins.plan last.now.state.course.place.lesson)
    last.now.state.notes.answered.items)
held_status begins status (IsHeld.not_started turns shown none closed wrote) = inr (inr (inl refl))
