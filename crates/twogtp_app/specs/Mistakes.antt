-- The lines of a usage error that the program finds itself: what is wrong, and with `--why` what is allowed. (Own.)
use Rattle.std.specs.Prelude.{◌==◌, ℕ, ◌%◌, ◌&&◌, Bool, true, false, nat_lt, if◌then◌else◌}
use Rattle.std.specs.Prelude.{List, [], ◌∷◌, ◌++◌, codes}
use Rattle.std.specs.Fmt.{decimal}
use Rattle.std.specs.List.{concat}
use Rattle.go_base.specs.Bytes.{newline}
use Rattle.byte_streams.specs.declared.calls.WriteOnce.{Ghosts}
use Rattle.byte_streams.specs.Writing.{WritesOrBreaks}
use Rattle.cli.specs.Failures.{IsReported, plan_error_text}
use Rattle.cli.specs.Status.{error_line}
use Rattle.cli.specs.declared.failure.PlanError.{PlanError}
use Rattle.cli.specs.declared.failure.PlanError.TheVariants.{BadWords, OutOfMemory}
use Rattle.twogtp_app.specs.declared.failure.Mistake.{Mistake}
use Rattle.twogtp_app.specs.declared.failure.Mistake.TheVariants.{NoBlackCommand, NoWhiteCommand, BadKomi, BadHandicap}
use Rattle.twogtp_app.specs.declared.options.Options.{Options}
use Rattle.twogtp_app.specs.Status.{mistake_text, program_name}

-- ---- what is allowed

-- which komis there are, and how a negative one is written
abbrev pub komi_limits : List ℕ
komi_limits =
    codes "twogtp: komi may be a multiple of 0.5 from -999999999.5 to 999999999.5, with at most nine "
    ++ codes "digits on each side of the point; write a negative one as --komi=-3.5\n"

-- the most stones that a size allows, or 0: the numbers from 2 up to it are those of `AllowsHandicap`
abbrev pub most_stones : ℕ → ℕ
most_stones size = if nat_lt size 7 then 0 else (if size % 2 == 1 && nat_lt 8 size then 9 else 4)

-- which handicaps there are, by the most stones
abbrev pub handicaps_up_to : ℕ → List ℕ
handicaps_up_to most =
    if most == 0 then codes " the handicap may only be 0"
    else (if most == 4 then codes " the handicap may be 0, or 2 to 4" else codes " the handicap may be 0, or 2 to 9")

-- which handicaps the size allows
abbrev pub handicap_limits : ℕ → List ℕ
handicap_limits size =
    concat (codes "twogtp: on size " ∷ decimal size ∷ handicaps_up_to (most_stones size) ∷ (newline ∷ []) ∷ [])

-- the line of what is allowed in place of a wrong value, if the mistake is one
abbrev pub limits_line : ℕ → Mistake → List ℕ
limits_line size NoBlackCommand = []
limits_line size NoWhiteCommand = []
limits_line size BadKomi = komi_limits
limits_line size BadHandicap = handicap_limits size

-- that line with `--why`, and nothing without
abbrev pub limits_part : Bool → ℕ → Mistake → List ℕ
limits_part false size what = []
limits_part true size what = limits_line size what

-- ---- the lines

-- The line that says what is wrong. With `--why` a second line follows where a komi or a handicap is wrong.
abbrev pub mistake_lines : Options → Mistake → List ℕ
mistake_lines options what =
    error_line program_name (mistake_text what) ++ limits_part options.details.why options.size what

-- the lines of a mistake in these options were written, whole unless the stream broke at them
abbrev pub ReportsMistake : {E : Type 0} → Ghosts E → Options → Mistake → E → E → Type 0
ReportsMistake errs options what before after = WritesOrBreaks errs (mistake_lines options what) before after

-- it was written why these options come to no plan, whole unless the stream broke at it
abbrev pub ReportsNoPlan : {E : Type 0} → Ghosts E → Options → PlanError Mistake → E → E → Type 0
ReportsNoPlan errs options (BadWords what) before after = ReportsMistake errs options what before after
ReportsNoPlan errs options OutOfMemory before after =
    IsReported errs program_name (plan_error_text mistake_text OutOfMemory) before after
