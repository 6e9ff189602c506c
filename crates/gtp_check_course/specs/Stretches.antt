-- What a stretch of a lesson asks.
use Rattle.std.specs.Prelude.{ℕ, min, Option, None, Some}
use Rattle.gtp_check_course.specs.declared.stretches.Stretch.{Stretch}
use Rattle.gtp_check_course.specs.declared.stretches.Stretch.TheVariants as stretch
use Rattle.gtp_check_course.specs.Places.{most_steps}

-- how many steps it has
abbrev pub steps_of : Stretch → ℕ
steps_of stretch.Seek = 42
steps_of stretch.Moves = 12
steps_of stretch.MovesInFull = 12
steps_of stretch.Own = 24
steps_of stretch.Corner = 72
steps_of stretch.Edges = 6
steps_of stretch.Stars = 18
steps_of stretch.Surround = 4
steps_of (stretch.OnMove number) = 2
steps_of (stretch.AroundMove number) = 4
steps_of stretch.Points = 1875
steps_of (stretch.Passes steps) = min steps most_steps
steps_of (stretch.Waits steps) = min steps most_steps
steps_of (stretch.Drawn steps) = min steps most_steps
steps_of (stretch.Probed steps) = min steps most_steps
steps_of (stretch.Back steps) = min steps most_steps
steps_of (stretch.Emptied steps) = min steps most_steps
steps_of (stretch.AllBack steps) = min steps most_steps
steps_of (stretch.Genmoves steps) = min steps most_steps
steps_of stretch.Filled = 625
steps_of stretch.Sealed = 625
steps_of stretch.Swept = 4
steps_of stretch.Gaps = 3
steps_of _ = 1

-- where there is a stretch
abbrev pub steps_if : Option Stretch → ℕ
steps_if None = 0
steps_if (Some now) = steps_of now
