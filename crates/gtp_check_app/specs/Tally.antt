-- What was found so far, and what of it is shown. (Own.)
use Rattle.std.specs.Prelude.{ℕ, ◌-◌, Bool, true, false, nat_lt, if◌then◌else◌, count_by}
use Rattle.std.specs.Prelude.{replicate}
use Rattle.std.specs.Prelude.{List, [], slice_index, slice_set}
use Rattle.gtp_check_course.specs.Lessons.{number_of}
use Rattle.gtp_check_course.specs.declared.lessons.Lesson.{Lesson}
use Rattle.gtp_check_talk.specs.contracts.fault.FaultPartialEq.TheImpl as equality
use Rattle.gtp_check_talk.specs.declared.fault.Fault.{Fault}
use Rattle.gtp_check_talk.specs.Counts.{one_more, with_more}
use Rattle.gtp_check_app.specs.declared.tally.Tally.{Tally}

-- Of one kind so many complaints are shown.
abbrev pub most_shown_alike : ℕ
most_shown_alike = 3

-- how many faults are known at most
abbrev pub most_known : ℕ
most_known = 128

-- the two faults are the same, with all that they say
abbrev pub is_same : Fault → Fault → Bool
is_same one other = equality.ghosts.eq one other

-- how many of these faults are this one
abbrev pub alike : List Fault → Fault → ℕ
alike faults fault = count_by (λ known. is_same known fault) faults

-- it is shown where less than three of its kind were, in whichever lesson
abbrev pub is_shown : Tally → Fault → Bool
is_shown tally fault = nat_lt (alike tally.faults.items fault) most_shown_alike

-- before the first start
abbrev pub nothing_found : ℕ → Tally
nothing_found starts_left = record {
  complaints = 0;
  faults = record { items = [] };
  hidden = replicate 15 0;
  starts_left = starts_left;
  is_after_fault = false;
  has_first_line = false;
  unjudged = 0;
}

-- a complaint of the lesson isn't shown
abbrev pub with_hidden : Tally → Lesson → Tally
with_hidden tally lesson = record tally {
  hidden = slice_set tally.hidden (number_of lesson) (one_more (slice_index tally.hidden (number_of lesson)));
}

-- something was found
abbrev pub with_one : Tally → Tally
with_one tally = record tally { complaints = one_more tally.complaints; is_after_fault = true }

-- a complaint of this fault is shown
abbrev pub with_known : Tally → Fault → Tally
with_known tally fault = record tally { faults = record { items = with_more most_known tally.faults.items fault } }

-- this was found in the lesson
abbrev pub found : Tally → Lesson → Fault → Tally
found tally lesson fault =
    if is_shown tally fault then with_known (with_one tally) fault else with_hidden (with_one tally) lesson

-- A `genmove` was answered with a move that isn't judged. It is counted, and the next start takes none of those that are
-- left.
abbrev pub with_unjudged : Tally → Tally
with_unjudged tally = record tally { unjudged = one_more tally.unjudged }

-- one of the starts that are left is taken
abbrev pub without_start : Tally → Tally
without_start tally = record tally { starts_left = tally.starts_left - 1 }

-- an engine was started: after something was found that takes one of the starts that are left
abbrev pub started_again : Tally → Tally
started_again tally =
    if tally.is_after_fault then record (without_start tally) { is_after_fault = false } else tally
