-- A running engine in step is at the controller's game, under its own side's ko rule.
use Rattle.std.proofs.Common.{◌≡◌, Some, true, sym, ◌∙◌, ap}
use Rattle.go_base.specs.Colour.{other}
use Rattle.go_base.specs.declared.colours.Colour.{Colour}
use Rattle.go_board.specs.Game.{GameRecord}
use Rattle.gtp_session.proofs.choosing.Policies.{AllowsLawful}
use Rattle.gtp_session.specs.Policy.{May}
use Rattle.gtp_match.specs.Controller.{in_step}
use Rattle.gtp_world.specs.World.{World, lane_of}
use Rattle.gtp_world.specs.Worlds.{policies_by, rules_in, game_at}
use Rattle.gtp_world.specs.Joined.{Rules, rule_of, ruled, IsJoined, bare, body, body_of}
use Rattle.gtp_world.specs.WordLaws.{EnginesInStepAreThere}
use Rattle.gtp_world.proofs.joined.AgreementLemmas.{same_game}
use Rattle.gtp_world.proofs.joined.JoinedLemmas.{seen_from}
use Rattle.gtp_world.proofs.joined.ReachedLemmas.{game_some, reached_inv}

pub there : {B W : Type 0} (rules : Rules) (v : World B W) (s : Colour) (game : GameRecord) → IsJoined rules v
    → game_at v s ≡ Some game → in_step v.controller s ≡ true → game ≡ ruled (rule_of rules s) v.controller.game
there rules v s game j is step =
    let x = game_some (lane_of v s).engine game is in
    sym x.2
    ∙ same_game rules v.controller s (bare (lane_of v s)) (bare (lane_of v (other s))) (body x.0)
    (seen_from rules v s j) step (ap body_of x.1)

pub engines_are_there : {M N B W : Type 0} (may_b : May B) (may_w : May W) (made_b : M → B → Type 0)
    (made_w : N → W → Type 0) → AllowsLawful may_b → AllowsLawful may_w
    → EnginesInStepAreThere (policies_by may_b made_b) (policies_by may_w made_w)
engines_are_there may_b may_w made_b made_w law_b law_w w s game reached is step =
    there (rules_in w) w.world s game (reached_inv may_b may_w made_b made_w law_b law_w w reached) is step
