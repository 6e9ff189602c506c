-- The statuses with which the program ends, and the lines of its failures. (Own.)
use Rattle.std.specs.Prelude.{◌≡◌, ◌⊎◌, ℕ, ◌==◌, ◌&&◌, Bool, nat_lt, if◌then◌else◌, List, codes, length}
use Rattle.std.specs.List.{list_all}
use Rattle.cli.specs.Failures.{IsReported, ReportsFailure as NamedReportsFailure}
use Rattle.cli.specs.Status.{done, own_failure, usage_failure}
use Rattle.cli.specs.declared.failure.Failure.{Failure}
use Rattle.gtp_check_course.specs.declared.lessons.Lesson.{Lesson}
use Rattle.gtp_check_talk.specs.Among.{is_among}
use Rattle.gtp_check_app.specs.declared.failure.Mistake.{Mistake}
use Rattle.gtp_check_app.specs.Mistakes.{mistake_text}
use Rattle.byte_streams.specs.declared.calls.WriteOnce.{Ghosts}

-- something was found
abbrev pub something_found : ℕ
something_found = 1

-- nothing was found, and a pass isn't earned
abbrev pub not_earned : ℕ
not_earned = 4

-- A pass is earned: none of the lessons that were to be asked is missed, and in each of them a move was answered
-- rightly.
abbrev pub is_earned : List Lesson → List Lesson → List Lesson → Bool
is_earned lessons missed answered = (length missed == 0) && list_all (is_among answered) lessons

-- the status of a check with so many complaints
abbrev pub status_of : ℕ → Bool → ℕ
status_of complaints earned =
    if nat_lt 0 complaints then something_found else (if earned then done else not_earned)

-- the program's name in the lines of mistakes and failures
abbrev pub program_name : List ℕ
program_name = codes "gtp_check"

-- what follows on a word or an option that there isn't
abbrev pub hint_line : List ℕ
hint_line = codes "An engine's command is one argument, in quotes: gtp_check 'gnugo --mode gtp'\n"

-- the line of a mistake was written, whole unless the stream broke at it
abbrev pub ReportsMistake : {E : Type 0} → Ghosts E → Mistake → E → E → Type 0
ReportsMistake errs what before after = IsReported errs program_name (mistake_text what) before after

-- the line of a failure was written, whole unless the stream broke at it
abbrev pub ReportsFailure : {E : Type 0} → Ghosts E → Failure → E → E → Type 0
ReportsFailure errs what before after = NamedReportsFailure errs program_name what before after

abbrev pub IsStatus : ℕ → Type 0
IsStatus n = (n ≡ done) ⊎ (n ≡ something_found) ⊎ (n ≡ usage_failure) ⊎ (n ≡ own_failure) ⊎ (n ≡ not_earned)
