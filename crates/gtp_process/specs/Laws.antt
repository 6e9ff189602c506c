-- What is late. (Own.)
use Rattle.std.specs.Prelude.{◌≡◌, ℕ, ◌*◌, ◌≤◌, false, List, ◌++◌, Some}
use Rattle.gtp_process.specs.declared.patience.Limits.{Limits}
use Rattle.gtp_process.specs.Waiting.{Event, begun, ends_in, late_in, steps_a_second, timeouts, with_events}

-- No answer ended since some moment, and since then as many polls timed out as make so many seconds.
pub record IsOverdue (limits : Limits) (events : List Event) (seconds : ℕ) : Type 0 where
  pub before : List Event
  pub since : List Event
  pub are : events ≡ before ++ since
  pub unanswered : ends_in (with_events (begun limits) before).place since ≡ false
  pub long : steps_a_second * seconds ≤ timeouts since

-- An engine is late by some limit only if so many seconds have passed in polls without the end of an answer.
abbrev pub OnlyTheLateAreLate : Type 0
OnlyTheLateAreLate = (limits : Limits) → (events : List Event) → (seconds : ℕ)
    → late_in (with_events (begun limits) events) ≡ Some seconds → IsOverdue limits events seconds
