-- How long an answer is waited for, and when it is late. (Own.)
use Rattle.std.specs.Prelude.{ℕ, ◌+◌, ◌*◌, ◌==◌, min, nat_le, Bool, true, false, if◌then◌else◌}
use Rattle.std.specs.Prelude.{List, [], ◌∷◌, Option, None, Some}
use Rattle.gtp_process.specs.declared.patience.Limits.{Limits}
use Rattle.gtp_process.specs.declared.patience.Patience.{Patience}
use Rattle.gtp_process.specs.declared.patience.Place.{Place}
use Rattle.gtp_process.specs.declared.patience.Place.TheVariants.{Before, InLine, AfterLine}

-- ---- where an answer ends

-- where output is after a newline: an empty line ends an answer
abbrev pub after_newline : Place → Place
after_newline InLine = AfterLine
after_newline Before = Before
after_newline AfterLine = Before

-- where output is after one byte more; carriage returns don't count
abbrev pub place_after : Place → ℕ → Place
place_after place byte = if byte == 13 then place else (if byte == 10 then after_newline place else InLine)

-- this byte ends an answer
abbrev pub is_ended_by : Place → ℕ → Bool
is_ended_by AfterLine byte = byte == 10
is_ended_by _ byte = false

-- ---- what happens while an engine is waited for

-- a poll of a fifth of a second timed out, or the engine wrote a byte
pub data Event : Type 0 where
  timed_out : Event
  wrote : ℕ → Event

-- how many polls timed out in a second
abbrev pub steps_a_second : ℕ
steps_a_second = 5

-- how many polls timed out among these events
abbrev pub timeouts : List Event → ℕ
timeouts [] = 0
timeouts (timed_out ∷ events) = timeouts events + 1
timeouts (wrote byte ∷ events) = timeouts events

-- an answer ends in these events, where the output is at this place before them
abbrev pub ends_in : Place → List Event → Bool
ends_in place [] = false
ends_in place (timed_out ∷ events) = ends_in place events
ends_in place (wrote byte ∷ events) =
    if is_ended_by place byte then true else ends_in (place_after place byte) events

-- ---- patience

-- the patience with an engine that was just started
abbrev pub begun : Limits → Patience
begun limits = record { limits = limits; steps = 0; place = Before; has_answered = false }

-- A poll more timed out. The count stays at its greatest number.
abbrev pub with_step : Patience → Patience
with_step patience = record patience { steps = min (patience.steps + 1) 4294967295 }

-- the engine wrote this byte
abbrev pub with_byte : Patience → ℕ → Patience
with_byte patience byte = record {
  limits = patience.limits;
  steps = if is_ended_by patience.place byte then 0 else patience.steps;
  place = place_after patience.place byte;
  has_answered = if is_ended_by patience.place byte then true else patience.has_answered;
}

abbrev pub with_event : Patience → Event → Patience
with_event patience timed_out = with_step patience
with_event patience (wrote byte) = with_byte patience byte

abbrev pub with_events : Patience → List Event → Patience
with_events patience [] = patience
with_events patience (event ∷ events) = with_events (with_event patience event) events

-- the engine wrote these bytes
abbrev pub with_bytes : Patience → List ℕ → Patience
with_bytes patience [] = patience
with_bytes patience (byte ∷ bytes) = with_bytes (with_byte patience byte) bytes

-- the limit for the answer that is waited for
abbrev pub limit_in : Patience → Option ℕ
limit_in patience = if patience.has_answered then patience.limits.later else patience.limits.first

-- the limit, if the answer is late: as many seconds have passed, by the polls that timed out
abbrev pub late_after : Option ℕ → ℕ → Option ℕ
late_after None steps = None
late_after (Some seconds) steps = if nat_le (steps_a_second * seconds) steps then Some seconds else None

abbrev pub late_in : Patience → Option ℕ
late_in patience = late_after (limit_in patience) patience.steps
