-- What is shown of a world of sans-IO engines.
use Rattle.std.proofs.Common.{◌≡◌, ◌≢◌, Some}
use Rattle.go_base.specs.declared.colours.Colour.{Colour}
use Rattle.go_base.specs.declared.colours.Colour.TheVariants.{Black, White}
use Rattle.gtp_session.specs.declared.events.Wait.TheVariants as wait
use Rattle.gtp_session.specs.Steps.{StepsState}
use Rattle.gtp_world.specs.Joined.{rule_of}
use Rattle.gtp_world.specs.Worlds.{HoldsInStep}
use Rattle.gtp_world.specs.StepsWorlds.{RuledWorld, rules_of_ruled, RuledReached, engine_at, IsThereAtOnce, SameAtOnce}
use Rattle.gtp_world.specs.StepsWorlds.{WaitsOnlyUnanswered}
use Rattle.gtp_world.proofs.joined.AgreementLemmas.{holds_ruled, holds_both}
use Rattle.gtp_world.proofs.joined.ReachedLemmas.{both_steps}
use Rattle.gtp_world.proofs.ruled.RuledLemmas.{ruled_agrees}

module _ (w : RuledWorld) (r : RuledReached w) where
  pub is_there : (s : Colour) (e : StepsState) → engine_at w.world s ≡ Some e → IsThereAtOnce w s e
  is_there Black e is step = (ruled_agrees w r).there Black e is step
  is_there White e is step = (ruled_agrees w r).there White e is step

  pub is_holding : (s : Colour) (e : StepsState) → engine_at w.world s ≡ Some e
      → HoldsInStep w.world.controller s e.game
  is_holding s e is step =
      holds_ruled (rule_of (rules_of_ruled w) s) e.game w.world.controller.game (is_there s e is step).game_is

  pub is_same : (s : Colour) (e : StepsState) → engine_at w.world s ≡ Some e → SameAtOnce w.world e
  is_same s e is black white other f is_other =
      holds_both e.game f.game w.world.controller.game
      (is_holding s e is (both_steps w.world.controller s black white))
      (is_holding other f is_other (both_steps w.world.controller other black white))

  pub is_answered : (s : Colour) (e : StepsState) → engine_at w.world s ≡ Some e
      → WaitsOnlyUnanswered w.world.controller s e
  is_answered Black e is run up idle = (ruled_agrees w r).answered Black e run is up idle
  is_answered White e is run up idle = (ruled_agrees w r).answered White e run is up idle

  pub is_no_own : (s : Colour) (e : StepsState) → engine_at w.world s ≡ Some e → e.wait ≢ wait.Answer
  is_no_own Black e is = (ruled_agrees w r).no_line_of_its_own Black e is
  is_no_own White e is = (ruled_agrees w r).no_line_of_its_own White e is
