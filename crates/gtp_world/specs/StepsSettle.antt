-- Catching up, in worlds of engines of any kinds: from a world in which nothing is going on, starts and deliveries bring
-- both sides into step, and no author has to call.
use Rattle.std.specs.Prelude.{◌≡◌, ◌≢◌, true, false, List, [], None, Some}
use Rattle.go_base.specs.declared.colours.Colour.{Colour}
use Rattle.go_board.specs.Game.{IsGame}
use Rattle.go_board.specs.declared.rules.KoRule.{KoRule}
use Rattle.gtp_session.specs.declared.events.Wait.TheVariants as wait
use Rattle.gtp_match.specs.declared.sides.EngineRun.{EngineRun}
use Rattle.gtp_match.specs.declared.verdicts.Action.TheVariants.{Done}
use Rattle.gtp_match.specs.declared.verdicts.Verdict.{Verdict}
use Rattle.gtp_match.specs.Controller.{in_step}
use Rattle.gtp_match.specs.Next.{next}
use Rattle.gtp_match.specs.Setup.{SetupRecord, IsSetup}
use Rattle.gtp_match.specs.Sides.{side_of}
use Rattle.gtp_world.specs.World.{WorldOf, at_side, lane_at, opening, EventOrCall, kind_at, RunsBy, as_one, as_any}
use Rattle.gtp_world.specs.Joined.{ruled}
use Rattle.gtp_world.specs.Settle.{settle}
use Rattle.gtp_world.specs.Kinds.{Kind}
use Rattle.gtp_world.specs.StepsLaws.{IsThere}

-- Nothing is going on: the controller isn't done, each side that is up has a running engine and has answered all that
-- it was sent, and no move is to be taken back. And the controller's game is one under each side's ko rule.
pub record IsQuiet {B W : Type 0} (rule : Colour → KoRule) (world : WorldOf B W) : Type 0 where
  pub not_done : (verdict : Verdict) → next world.controller ≢ Done verdict
  pub running : (side : Colour) (run : EngineRun) → (side_of world.controller.sides side).up ≡ Some run
      → (engine : at_side B W side) × ((lane_at world side).engine ≡ Some engine)
  pub answered : (side : Colour) (run : EngineRun) → (side_of world.controller.sides side).up ≡ Some run
      → run.unanswered ≡ []
  pub none_taken_back : world.controller.pending ≡ None
  pub games : (side : Colour) → IsGame (ruled (rule side) world.controller.game)

-- the side is in step, and its engine runs at the game that the old world's controller had, under its own ko rule, and
-- waits for nothing; the controller has that game still
pub record IsCaughtUp {B W : Type 0} (side : Colour) (kind : Kind (at_side B W side)) (old new : WorldOf B W)
    : Type 0 where
  pub in_step : in_step new.controller side ≡ true
  pub engine : at_side B W side
  pub runs : (lane_at new side).engine ≡ Some engine
  pub there : IsThere kind old.controller.game engine
  pub controller : new.controller.game ≡ old.controller.game

module _ {B W : Type 0} (black : Kind B) (white : Kind W) where
  -- the ko rule of a side's engines
  abbrev pub rule_at_kind : Colour → KoRule
  rule_at_kind side = (kind_at black white side).rule

  -- from a reached world in which nothing is going on, the events that settle it make both sides catch up
  abbrev pub CatchUp : {A : Type 0} → (A → EventOrCall) → Type 0
  CatchUp {A} as_event =
      (setup : SetupRecord) (events : List A) (old new : WorldOf B W) (side : Colour) → IsSetup setup
      → RunsBy black white as_event (opening setup) events old → IsQuiet rule_at_kind old
      → RunsBy black white as_one old (settle old.controller) new
      → IsCaughtUp side (kind_at black white side) old new

  -- in the opening of every setup nothing is going on
  abbrev pub StepsOpeningsAreQuiet : Type 0
  StepsOpeningsAreQuiet = (setup : SetupRecord) → IsSetup setup
      → IsQuiet rule_at_kind (opening {B = B} {W = W} setup)

  -- Where an engine waits for its author, its side is up and has a command that isn't answered. So the side isn't in
  -- step, and something is going on.
  pub record IsStillAsked (world : WorldOf B W) (side : Colour) : Type 0 where
    pub run : EngineRun
    pub up : (side_of world.controller.sides side).up ≡ Some run
    pub unanswered : run.unanswered ≢ []
    pub not_in_step : in_step world.controller side ≡ false
    pub not_quiet : ¬ IsQuiet rule_at_kind world

  -- over every list of events from the opening of any setup
  abbrev pub StepsWaitUnanswered : Type 0
  StepsWaitUnanswered =
      (setup : SetupRecord) (events : List EventOrCall) (world : WorldOf B W) (side : Colour)
      (engine : at_side B W side) → IsSetup setup
      → RunsBy black white as_any (opening setup) events world → (lane_at world side).engine ≡ Some engine
      → (kind_at black white side).wait engine ≢ wait.Nothing → IsStillAsked world side

  -- how such worlds catch up
  pub record StepsSettle : Type 0 where
    pub openings : StepsOpeningsAreQuiet
    pub quiet : CatchUp as_any
    pub waits : StepsWaitUnanswered
