-- The headline, `EnginesInStepAreThere`, and that worlds in which nothing is going on catch up.
use Rattle.std.specs.Prelude.{◌≡◌, true, List, Some}
use Rattle.go_base.specs.declared.colours.Colour.{Colour}
use Rattle.go_board.specs.Game.{GameRecord}
use Rattle.go_board.specs.declared.rules.KoRule.{KoRule}
use Rattle.gtp_match.specs.Controller.{in_step}
use Rattle.gtp_session.specs.Engine.{Engine}
use Rattle.gtp_match.specs.Setup.{SetupRecord, IsSetup}
use Rattle.gtp_world.specs.declared.events.Event.{Event}
use Rattle.gtp_world.specs.Lane.{SidePolicies}
use Rattle.gtp_world.specs.World.{World, opening, kind_at, as_one, Runs}
use Rattle.gtp_world.specs.Worlds.{Making, MadeWorld, MadeReached, game_at, rule_at}
use Rattle.gtp_world.specs.Joined.{Rules, ruled}
use Rattle.gtp_world.specs.Settle.{MaySettle, IsSettled}
use Rattle.gtp_world.specs.Kinds.{sessions}
use Rattle.gtp_world.specs.StepsSettle.{IsQuiet, IsCaughtUp, CatchUp}

-- ---- the headline, with the ko rules

module _ {M N B W : Type 0} (black_by : Making M → SidePolicies B) (white_by : Making N → SidePolicies W) where
  -- in every world that was reached, an engine that runs and is in step is at the controller's game, under its own
  -- side's ko rule
  abbrev pub EnginesInStepAreThere : Type 0
  EnginesInStepAreThere = (made : MadeWorld M N B W) (side : Colour) (game : GameRecord)
      → MadeReached black_by white_by made
      → game_at made.world side ≡ Some game → in_step made.world.controller side ≡ true
      → game ≡ ruled (rule_at made side) made.world.controller.game

-- ---- settling

-- in the opening of every setup nothing is going on, whatever the ko rules, and it may settle
pub record OpeningsMaySettle (B W : Type 0) : Type 0 where
  pub quiet : (rule : Colour → KoRule) (setup : SetupRecord) → IsSetup setup
      → IsQuiet rule (opening {B = Engine B} {W = Engine W} setup)
  pub may : (rules : Rules) (setup : SetupRecord) → IsSetup setup → MaySettle {B = B} {W = W} rules (opening setup)

module _ {B W : Type 0} (policies_black : SidePolicies B) (policies_white : SidePolicies W) where
  -- in a reached world that is settled both sides have caught up
  abbrev pub SettledIsCaughtUp : Type 0
  SettledIsCaughtUp = (setup : SetupRecord) (events : List Event) (old new : World B W) (side : Colour) → IsSetup setup
      → Runs policies_black policies_white (opening setup) events new → IsSettled old new
      → IsCaughtUp side (kind_at (sessions policies_black) (sessions policies_white) side) old new

  -- from a reached world in which nothing is going on, the events that settle it make both sides catch up
  abbrev pub QuietWorldsCatchUp : Type 0
  QuietWorldsCatchUp = CatchUp (sessions policies_black) (sessions policies_white) as_one
