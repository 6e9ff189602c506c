-- The status that the verdicts of games make, and that nothing is reported where no lines are asked for.
use Rattle.std.proofs.Common.{◌≡◌, ◌∙◌, ◌+◌, ℕ, ◌⊎◌, inl, inr, refl, true, false, Bool, []}
use Rattle.gtp_match.specs.declared.verdicts.Verdict.{Verdict}
use Rattle.gtp_match.specs.declared.verdicts.Verdict.TheVariants.{Score, Resign, Limit, Forfeit, Unfit, Abandoned}
use Rattle.byte_streams.specs.declared.calls.WriteOnce.{Ghosts}
use Rattle.byte_streams.specs.Writing.{AreFlushed, no_line}
use Rattle.twogtp_app.specs.Status.{some_given_up, status_with}
use Rattle.cli.specs.Status.{done}
use Rattle.twogtp_app.specs.Games.{GamesAreWritten, Run, RunState, game, next_game, no_game, run_engines}
use Rattle.twogtp_app.specs.Turns.{Engines, Plays, Stage, not_yet, reporting, stage, turns}

-- ---- the status

pub status_range-with : (status : ℕ) (verdict : Verdict) → (status ≡ done) ⊎ (status ≡ some_given_up)
    → (status_with status verdict ≡ done) ⊎ (status_with status verdict ≡ some_given_up)
status_range-with status (Score half_points) e = e
status_range-with status (Resign side) e = e
status_range-with status Limit e = e
status_range-with status (Forfeit side cause) e = e
status_range-with status (Unfit side) e = inr refl
status_range-with status (Abandoned side) e = inr refl

module _ {P O E : Type 0} (run : Run P O E) (first : RunState P O E) where
  -- all games ended by the rules, or in some a side was unfit or given up
  pub status_range : (number status : ℕ) (after : RunState P O E) → GamesAreWritten run first number status after
      → (status ≡ done) ⊎ (status ≡ some_given_up)
  status_range _ _ _ no_game = inl refl
  status_range _ _ _ (game {status = status} {before = before} {verdict = verdict} games is) =
      status_range-with status verdict (status_range _ status before games)

-- ---- where no lines are asked for, none are written

module _ {P E : Type 0} (engines : Engines P) (errs : Ghosts E) (number : ℕ) (first : Stage P E) where
  turns_are_quiet : (why : Bool) → why ≡ false → (count : ℕ) (last : Stage P E)
      → Plays engines (reporting errs why number) first count last → last.errors ≡ first.errors
  turns_are_quiet true none _ _ plays = absurd (cc)
  turns_are_quiet false none _ _ not_yet = refl
  turns_are_quiet false none _ _ (turns {count = n} {before = before} turn plays is out) =
      nothing_out out ∙ turns_are_quiet false none n before plays
    where
      nothing_out : {before after : E} → AreFlushed errs [] before after → after ≡ before
      nothing_out no_line = refl

module _ {P O E : Type 0} (run : Run P O E) (none : run.plan.task.details.why ≡ false) (first : RunState P O E) where
  pub games_are_quiet : (number status : ℕ) (after : RunState P O E) → GamesAreWritten run first number status after
      → after.errors ≡ first.errors
  games_are_quiet _ _ _ no_game = refl
  games_are_quiet _ _ after (game {number = n} {status = status} {before = before} games is) =
      turns_are_quiet (run_engines run) run.known.errors (n + 1) (next_game run before) run.plan.task.details.why none
      is.played.plays.0 (stage is.last after.errors) is.played.plays.1
      ∙ games_are_quiet n status before games
