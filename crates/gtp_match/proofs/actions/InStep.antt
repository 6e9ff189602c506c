-- What being in step says.
use Rattle.std.proofs.Common.{◌≡◌, ℕ, List, [], ◌∷◌, length, Bool, true, Option, None, Some, ◌&&◌, eqb, refl, arith}
use Rattle.std.specs.Prelude.{◌↔◌, MatchOption}
use Rattle.std.proofs.lemmas.Bool.{eqb-true}
use Rattle.std.proofs.lemmas.Bool.Decides.{nat_tests}
use Rattle.go_board.specs.Game.{GameRecord}
use Rattle.gtp_match.specs.Controller.{engine_in_step}
use Rattle.gtp_match.specs.Going.{HasWholeScript}
use Rattle.gtp_match.specs.Script.{script}
use Rattle.gtp_match.specs.Unanswered.{none_unanswered}
use Rattle.gtp_match.specs.declared.sides.EngineRun.{EngineRun}
use Rattle.gtp_match.specs.declared.unanswered.SentCommand.{SentCommand}

none_left : (entries : List SentCommand) (b : Bool) → (none_unanswered entries && b) ≡ true
    → (entries ≡ []) × (b ≡ true)
none_left [] b e = (refl, e)
none_left (entry ∷ entries) b e = absurd (cc)

both_there : (engine : EngineRun) (n : ℕ) → engine.unanswered ≡ [] → engine.confirmed ≡ n
    → (none_unanswered engine.unanswered && eqb engine.confirmed n) ≡ true
both_there engine n idle as_many =
    let same : eqb engine.confirmed n ≡ true = grind (arith, nat_tests) in
    rw (idle, same) refl

pub in_step_says : (game : GameRecord) (up : Option EngineRun)
    → engine_in_step game up ≡ true ↔ MatchOption up ⊥ (HasWholeScript game)
in_step_says game None = ((λ e. cc), (λ no. absurd no))
in_step_says game (Some engine) = (
  (λ e.
      let both = none_left engine.unanswered (eqb engine.confirmed (length (script game))) e in
      record { idle = both.0; as_many = eqb-true engine.confirmed (length (script game)) both.1 }),
  (λ has. both_there engine (length (script game)) has.idle has.as_many),
)
