-- Patience over what happens while an engine is waited for.
use Rattle.std.proofs.Common.{◌≡◌, ◌∙◌, ℕ, ◌+◌, ◌*◌, ◌≤◌, Bool, true, false, List, [], ◌∷◌, ◌++◌, Option, None, Some}
use Rattle.std.proofs.Common.{refl, ap, arith}
use Rattle.std.specs.Prelude.{if◌then◌else◌, min, nat_le}
use Rattle.std.proofs.lemmas.Grind.{common_steps}
use Rattle.gtp_process.specs.declared.patience.Limits.{Limits}
use Rattle.gtp_process.specs.declared.patience.Patience.{Patience}
use Rattle.gtp_process.specs.Laws.{IsOverdue}
use Rattle.gtp_process.specs.Waiting.{Event, begun, ends_in, is_ended_by, late_after, late_in, steps_a_second, timeouts}
use Rattle.gtp_process.specs.Waiting.{with_byte, with_event, with_events}
use Rattle.gtp_process.specs.Waiting.Event.{timed_out, wrote}

-- the polls that count timed out since the last answer ended, or since the beginning, if none ended
pub data IsSince (patience : Patience) (events : List Event) : Type 0 where
  from_start : ends_in patience.place events ≡ false
      → (with_events patience events).steps ≤ patience.steps + timeouts events → IsSince patience events
  from_answer : (before since : List Event) → events ≡ before ++ since
      → ends_in (with_events patience before).place since ≡ false
      → (with_events patience events).steps ≤ timeouts since → IsSince patience events

-- one poll counts once at most
at_most_once : (steps : ℕ) → min (steps + 1) 4294967295 ≤ steps + 1
at_most_once steps = omega arith

-- a byte more before
before_byte : (patience : Patience) (byte : ℕ) (events : List Event) (ended : Bool)
    → is_ended_by patience.place byte ≡ ended
    → ends_in (with_byte patience byte).place events ≡ false
    → (with_events (with_byte patience byte) events).steps ≤ (with_byte patience byte).steps + timeouts events
    → IsSince patience (wrote byte ∷ events)
before_byte patience byte events true is none few =
    from_answer (wrote byte ∷ []) events refl none
    (omega (arith, few, ap (λ (b : Bool). if b then 0 else patience.steps) is))
before_byte patience byte events false is none few =
    from_start
    (ap (λ (b : Bool). if b then true else ends_in (with_byte patience byte).place events) is ∙ none)
    (omega (arith, few, ap (λ (b : Bool). if b then 0 else patience.steps) is))

-- an event more before
before_event : (patience : Patience) (event : Event) (events : List Event)
    → IsSince (with_event patience event) events → IsSince patience (event ∷ events)
before_event patience event events (from_answer before since are none few) =
    from_answer (event ∷ before) since (ap (λ (l : List Event). event ∷ l) are) none few
before_event patience timed_out events (from_start none few) =
    from_start none
    (omega (arith, few, at_most_once patience.steps))
before_event patience (wrote byte) events (from_start none few) =
    before_byte patience byte events (is_ended_by patience.place byte) refl none few

-- whatever happens
since : (patience : Patience) (events : List Event) → IsSince patience events
since patience [] = from_start refl (omega arith)
since patience (event ∷ events) =
    before_event patience event events (since (with_event patience event) events)

-- as many polls timed out as make the limit
late_within : (is_over : Bool) (limit seconds steps : ℕ) → nat_le (steps_a_second * limit) steps ≡ is_over
    → (if is_over then Some limit else None) ≡ Some seconds → steps_a_second * seconds ≤ steps
late_within true limit seconds steps over is = grind (arith, common_steps)
late_within false limit seconds steps over is = grind (arith, common_steps)

late_steps : (limit : Option ℕ) (steps seconds : ℕ) → late_after limit steps ≡ Some seconds
    → steps_a_second * seconds ≤ steps
late_steps None steps seconds is = grind (arith, common_steps)
late_steps (Some limit) steps seconds is =
    late_within (nat_le (steps_a_second * limit) steps) limit seconds steps refl is

-- an engine that was just started
overdue : (limits : Limits) (events : List Event) (seconds : ℕ) → IsSince (begun limits) events
    → steps_a_second * seconds ≤ (with_events (begun limits) events).steps → IsOverdue limits events seconds
overdue limits events seconds (from_start none few) long = record {
  before = [];
  since = events;
  are = refl;
  unanswered = none;
  long = omega (arith, few, long);
}
overdue limits events seconds (from_answer before since are none few) long = record {
  before = before;
  since = since;
  are = are;
  unanswered = none;
  long = omega (arith, few, long);
}

pub overdue_where_late : (limits : Limits) (events : List Event) (seconds : ℕ)
    → late_in (with_events (begun limits) events) ≡ Some seconds → IsOverdue limits events seconds
overdue_where_late limits events seconds is =
    overdue limits events seconds (since (begun limits) events) (late_steps _ _ seconds is)
