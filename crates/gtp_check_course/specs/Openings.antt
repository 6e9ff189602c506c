-- What an engine is asked after each start: its name, its version, and which of the commands it has that it may be
-- without.
use Rattle.std.specs.Prelude.{ℕ, Option, None, Some}
use Rattle.gtp_check_judge.specs.declared.asking.CheckCommand.{CheckCommand}
use Rattle.gtp_check_judge.specs.declared.asking.CheckCommand.TheVariants as ask
use Rattle.gtp_check_judge.specs.declared.asking.Known.TheVariants.{FixedHandicap, Undo, FinalScore}
use Rattle.gtp_check_course.specs.declared.openings.Opening.{Opening}
use Rattle.gtp_check_course.specs.declared.openings.Opening.TheVariants.{Name, Version, KnowsHandicap, KnowsUndo}
use Rattle.gtp_check_course.specs.declared.openings.Opening.TheVariants.{KnowsScore}
use Rattle.gtp_check_course.specs.declared.openings.Opening.TheVariants.{Over}

-- how many of its commands come before this
abbrev pub opened : Opening → ℕ
opened Name = 0
opened Version = 1
opened KnowsHandicap = 2
opened KnowsUndo = 3
opened KnowsScore = 4
opened Over = 5

-- the command that is asked next, and what is asked after it
abbrev pub opening_next : Opening → Option (CheckCommand × Opening)
opening_next Name = Some (ask.Name, Version)
opening_next Version = Some (ask.Version, KnowsHandicap)
opening_next KnowsHandicap = Some (ask.KnownCommand FixedHandicap, KnowsUndo)
opening_next KnowsUndo = Some (ask.KnownCommand Undo, KnowsScore)
opening_next KnowsScore = Some (ask.KnownCommand FinalScore, Over)
opening_next Over = None
