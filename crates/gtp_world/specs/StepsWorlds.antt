-- Worlds in which the engines of both sides are sans-IO, with the ko rules of both sides' engines.
use Rattle.std.specs.Prelude.{◌≡◌, true, List, [], Option, Some}
use Rattle.go_base.specs.declared.colours.Colour.{Colour}
use Rattle.go_base.specs.declared.colours.Colour.TheVariants.{Black, White}
use Rattle.go_board.specs.declared.rules.KoRule.{KoRule}
use Rattle.gtp_session.specs.declared.events.Wait.TheVariants as wait
use Rattle.gtp_session.specs.Steps.{StepsState}
use Rattle.gtp_match.specs.declared.controller.Controller.{Controller}
use Rattle.gtp_match.specs.declared.sides.EngineRun.{EngineRun}
use Rattle.gtp_match.specs.Controller.{in_step}
use Rattle.gtp_match.specs.Sides.{side_of}
use Rattle.gtp_world.specs.declared.steps_events.Call.{Call as CallMade}
use Rattle.gtp_world.specs.declared.steps_events.Call.TheVariants as made
use Rattle.gtp_world.specs.declared.steps_events.StepsEvent.{StepsEvent as EventMade}
use Rattle.gtp_world.specs.declared.steps_events.StepsEvent.TheVariants as event
use Rattle.gtp_world.specs.Lane.{LaneOf}
use Rattle.gtp_world.specs.World.{WorldOf, EventOrCall, Holds}
use Rattle.gtp_world.specs.Worlds.{MadeWorldOf, MadeHappensBy, MadeRunsBy, MadeReachedBy}
use Rattle.gtp_world.specs.Joined.{Rules, rule_of}
use Rattle.gtp_world.specs.Kinds.{Call, in_steps}
use Rattle.gtp_world.specs.StepsLaws.{IsThere}

-- ---- the program's events, as the definition has them

abbrev pub call_of : CallMade → Call
call_of (made.Choose choice) = Call.choose choice
call_of (made.Answer ok text) = Call.answer ok text.now
call_of made.Decline = Call.decline
call_of (made.SetName text) = Call.set_name text.now
call_of (made.SetVersion text) = Call.set_version text.now
call_of (made.AddCommand name) = Call.add_command name.now

abbrev pub event_of : EventMade → EventOrCall
event_of (event.Happens happens) = EventOrCall.happens happens
event_of (event.Calls side call) = EventOrCall.calls side (call_of call)

-- ---- worlds whose engines are made of nothing but their ko rules

abbrev pub RuledWorld : Type 0
RuledWorld = MadeWorldOf KoRule KoRule StepsState StepsState

abbrev pub rules_of_ruled : RuledWorld → Rules
rules_of_ruled ruled = record { black = ruled.making_black; white = ruled.making_white }

abbrev pub RuledHappens : RuledWorld → EventMade → RuledWorld → Type 0
RuledHappens old event new = MadeHappensBy in_steps in_steps event_of old event new

abbrev pub RuledRuns : RuledWorld → List EventMade → RuledWorld → Type 0
RuledRuns old events new = MadeRunsBy in_steps in_steps event_of old events new

abbrev pub RuledReached : RuledWorld → Type 0
RuledReached ruled = MadeReachedBy in_steps in_steps event_of ruled

-- ---- what is shown of it

-- a side's engine and lists
abbrev pub side_lane : WorldOf StepsState StepsState → Colour → LaneOf StepsState
side_lane world Black = world.black
side_lane world White = world.white

-- the side's engine, where one runs
abbrev pub engine_at : WorldOf StepsState StepsState → Colour → Option StepsState
engine_at world side = (side_lane world side).engine

-- An engine whose side is in step is at the controller's game, under its own side's ko rule, and waits for nothing of
-- its author.
abbrev pub IsThereAtOnce : RuledWorld → Colour → StepsState → Type 0
IsThereAtOnce ruled side engine =
    in_step ruled.world.controller side ≡ true
    → IsThere (in_steps (rule_of (rules_of_ruled ruled) side)) ruled.world.controller.game engine

-- where both sides are in step, each running engine holds this one's game
abbrev pub SameAtOnce : WorldOf StepsState StepsState → StepsState → Type 0
SameAtOnce world engine =
    in_step world.controller Black ≡ true → in_step world.controller White ≡ true
    → (side : Colour) (other : StepsState) → engine_at world side ≡ Some other → Holds engine.game other.game

-- an engine whose side has answered all that it was sent waits for nothing
abbrev pub WaitsOnlyUnanswered : Controller → Colour → StepsState → Type 0
WaitsOnlyUnanswered c side engine =
    (run : EngineRun) → (side_of c.sides side).up ≡ Some run → run.unanswered ≡ [] → engine.wait ≡ wait.Nothing
