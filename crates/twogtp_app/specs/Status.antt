-- The statuses with which the program ends, and the lines of its failures. (Own.)
use Rattle.std.specs.Prelude.{◌≡◌, ◌⊎◌, ℕ, List, codes}
use Rattle.cli.specs.Failures.{ReportsFailure as NamedReportsFailure}
use Rattle.cli.specs.Status.{done, own_failure, usage_failure}
use Rattle.gtp_match.specs.declared.verdicts.Verdict.{Verdict}
use Rattle.gtp_match.specs.declared.verdicts.Verdict.TheVariants.{Score, Resign, Limit, Forfeit, Unfit, Abandoned}
use Rattle.cli.specs.declared.failure.Failure.{Failure}
use Rattle.twogtp_app.specs.declared.failure.Mistake.{Mistake}
use Rattle.twogtp_app.specs.declared.failure.Mistake.TheVariants.{NoBlackCommand, NoWhiteCommand, BadKomi, BadHandicap}
use Rattle.byte_streams.specs.declared.calls.WriteOnce.{Ghosts}

-- in some game a side was unfit or abandoned
abbrev pub some_given_up : ℕ
some_given_up = 1

-- the program's name in the lines of mistakes and failures
abbrev pub program_name : List ℕ
program_name = codes "twogtp"

-- what a mistake in the words is called
abbrev pub mistake_text : Mistake → List ℕ
mistake_text NoBlackCommand = codes "no command for black"
mistake_text NoWhiteCommand = codes "no command for white"
mistake_text BadKomi = codes "bad komi"
mistake_text BadHandicap = codes "bad handicap"

-- the line of a failure was written, whole unless the stream broke at it
abbrev pub ReportsFailure : {E : Type 0} → Ghosts E → Failure → E → E → Type 0
ReportsFailure errs what before after = NamedReportsFailure errs program_name what before after

-- the status after one game more, that ended so
abbrev pub status_with : ℕ → Verdict → ℕ
status_with status (Score half_points) = status
status_with status (Resign side) = status
status_with status Limit = status
status_with status (Forfeit side cause) = status
status_with status (Unfit side) = some_given_up
status_with status (Abandoned side) = some_given_up

abbrev pub IsStatus : ℕ → Type 0
IsStatus n = (n ≡ done) ⊎ (n ≡ some_given_up) ⊎ (n ≡ usage_failure) ⊎ (n ≡ own_failure)
