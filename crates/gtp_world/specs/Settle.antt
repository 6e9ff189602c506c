-- Catching up: from a quiet world, events that bring both engines to the controller's game.
use Rattle.std.specs.Prelude.{◌≡◌, ◌+◌, true, List, [], ◌∷◌, ◌++◌, length, drop, Option, None, Some, IsSome}
use Rattle.std.specs.List.{flat_map}
use Rattle.go_base.specs.declared.colours.Colour.{Colour}
use Rattle.go_base.specs.declared.colours.Colour.TheVariants.{Black, White}
use Rattle.go_board.specs.Game.{GameRecord, IsGame}
use Rattle.gtp_wire.specs.declared.commands.Command.{Command}
use Rattle.gtp_session.specs.Engine.{Engine}
use Rattle.gtp_match.specs.declared.sides.EngineRun.{EngineRun}
use Rattle.gtp_match.specs.declared.controller.Controller.{Controller}
use Rattle.gtp_match.specs.Controller.{in_step}
use Rattle.gtp_match.specs.Script.{script}
use Rattle.gtp_match.specs.Setup.{SetupRecord, IsSetup}
use Rattle.gtp_match.specs.Sides.{side_of}
use Rattle.gtp_match.specs.Sound.{IsIdle}
use Rattle.gtp_match.specs.Taking.{taking_back}
use Rattle.gtp_world.specs.declared.events.Event.{Event}
use Rattle.gtp_world.specs.declared.events.Event.TheVariants.{Act, ToEngine, ToController}
use Rattle.gtp_world.specs.Lane.{SidePolicies}
use Rattle.gtp_world.specs.World.{World, opening, Runs}
use Rattle.gtp_world.specs.Joined.{Rules, rule_of, ruled}
use Rattle.gtp_world.specs.Laws.{rules_of}

-- ---- the events

-- one `Act` where the side is down
abbrev pub start_of : Option EngineRun → List Event
start_of None = Act ∷ []
start_of (Some engine) = []

-- the script commands that a side has left: neither confirmed nor unanswered; all of them for a side that is down
abbrev pub script_left : GameRecord → Option EngineRun → List Command
script_left game None = script game
script_left game (Some engine) = drop (engine.confirmed + length engine.unanswered) (script game)

-- a round of a side: a command is sent, the engine reads and answers it, and the answer is heard
abbrev pub round : Colour → List Event
round side = Act ∷ ToEngine side 100 ∷ ToController side 100 ∷ []

-- a round for each of the commands
abbrev pub rounds : Colour → List Command → List Event
rounds side commands = flat_map (λ command. round side) commands

-- the starts, and then the rounds of Black, and then those of White
abbrev pub settle : Controller → List Event
settle c =
    start_of c.sides.black.up ++ (start_of c.sides.white.up
    ++ (rounds Black (script_left c.game c.sides.black.up) ++ rounds White (script_left c.game c.sides.white.up)))

-- ---- where it works, and what it leaves

-- an engine runs, where the side is up
abbrev pub RunsWhereUp : {P : Type 0} → Option EngineRun → Option (Engine P) → Type 0
RunsWhereUp None engine = Unit {0}
RunsWhereUp (Some u) engine = IsSome engine

-- No verdict, nothing unanswered, nothing to be taken back, and an engine runs for each side that is up; and the game
-- is one under the ko rule of each side.
pub record MaySettle {B W : Type 0} (rules : Rules) (world : World B W) : Type 0 where
  pub verdict : world.controller.verdict ≡ None
  pub nothing : taking_back world.controller ≡ None
  pub games : (side : Colour) → IsGame (ruled (rule_of rules side) world.controller.game)
  pub idle : (side : Colour) → IsIdle (side_of world.controller.sides side).up
  pub black : RunsWhereUp world.controller.sides.black.up world.black.engine
  pub white : RunsWhereUp world.controller.sides.white.up world.white.engine

-- both engines run, both sides are in step, and the game of the controller, with its record, is the one before
pub record IsSettled {B W : Type 0} (old new : World B W) : Type 0 where
  pub black_runs : IsSome new.black.engine
  pub white_runs : IsSome new.white.engine
  pub in_step : (side : Colour) → in_step new.controller side ≡ true
  pub record_stays : new.controller.game ≡ old.controller.game

module _ {B W : Type 0} (policies_black : SidePolicies B) (policies_white : SidePolicies W) where
  -- from each such world that is reached from the opening, every run of these events leads to such a one
  abbrev pub Settles : Type 0
  Settles =
      (setup : SetupRecord) (events : List Event) (old new : World B W) → IsSetup setup
      → Runs policies_black policies_white (opening setup) events old
      → MaySettle (rules_of policies_black policies_white) old
      → Runs policies_black policies_white old (settle old.controller) new → IsSettled old new
