-- What one round of a game's loop does.
use Rattle.std.specs.Prelude.{◌≡◌}
use Rattle.gtp_match.specs.declared.verdicts.Action.TheVariants.{Done}
use Rattle.gtp_match.specs.Next.{next}
use Rattle.gtp_match.specs.Sound.{IsSound}
use Rattle.twogtp_app.specs.declared.game.Step.{Step}
use Rattle.twogtp_app.specs.declared.game.Step.TheVariants.{Over, Taken}
use Rattle.twogtp_app.specs.Turns.{Engines, GameState, IsTurn}
use Rattle.twogtp_app.specs.Why.{ReportCanBeShown}

-- a turn was taken, of which everything can be written; or the match is over, and nothing was done
abbrev pub IsStep : {P : Type 0} → Engines P → GameState P → GameState P → Step → Type 0
IsStep engines before after (Taken turn) = IsTurn engines before after turn × ReportCanBeShown turn.report
IsStep engines before after (Over verdict) =
    (next before.game ≡ Done verdict) × IsSound before.game × (after ≡ before)
