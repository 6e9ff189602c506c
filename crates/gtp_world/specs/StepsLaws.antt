-- Laws of worlds whose engines are sans-IO: where such worlds go, and that no two engines in step disagree.
use Rattle.std.specs.Prelude.{◌≡◌, ◌≢◌, ◌≤◌, ℕ, true, List, [], ◌∷◌, ◌++◌, length, Option, None, Some}
use Rattle.go_base.specs.declared.colours.Colour.{Colour}
use Rattle.go_base.specs.declared.colours.Colour.TheVariants.{Black, White}
use Rattle.go_board.specs.Game.{GameRecord}
use Rattle.go_board.specs.declared.rules.KoRule.{KoRule}
use Rattle.gtp_wire.specs.Lines.{lines}
use Rattle.gtp_session.specs.declared.events.Wait.TheVariants as wait
use Rattle.gtp_session.specs.Engine.{Engine}
use Rattle.gtp_session.specs.Policy.{May, IsLawful}
use Rattle.gtp_session.specs.Steps.{StepsState}
use Rattle.gtp_match.specs.declared.sides.EngineRun.{EngineRun}
use Rattle.gtp_match.specs.declared.controller.Controller.{Controller}
use Rattle.gtp_match.specs.Controller.{in_step, to_move}
use Rattle.gtp_match.specs.Setup.{SetupRecord, IsSetup}
use Rattle.gtp_match.specs.Sides.{side_of}
use Rattle.gtp_world.specs.Lane.{LaneOf, Lane, SidePolicies}
use Rattle.gtp_world.specs.World.{WorldOf, World, at_side, lane_at, opening, EventOrCall, kind_at, RunsBy, as_any, Reached}
use Rattle.gtp_world.specs.World.{Holds, most_to_engine, most_to_controller}
use Rattle.gtp_world.specs.Worlds.{Making, sessions_by, game_in}
use Rattle.gtp_world.specs.Joined.{Rules, IsFair, ruled}
use Rattle.gtp_world.specs.Kinds.{Kind, in_steps}

-- ---- the headline

-- the ko rules of both sides' engines
abbrev pub rules_by : {B W : Type 0} → Kind B → Kind W → Rules
rules_by black white = record { black = black.rule; white = white.rule }

-- It is at the controller's game, under its own side's ko rule, and waits for nothing of its author.
pub record IsThere {E : Type 0} (kind : Kind E) (game : GameRecord) (engine : E) : Type 0 where
  pub game_is : kind.game engine ≡ ruled kind.rule game
  pub waits_not : kind.wait engine ≡ wait.Nothing

-- It is asked for this colour's choice, which is its own side, whose turn it is in the controller's game. And it is at
-- that game, under its own side's ko rule.
pub record IsAskedThere {E : Type 0} (kind : Kind E) (c : Controller) (side colour : Colour) (engine : E) : Type 0 where
  pub own : colour ≡ side
  pub turn : to_move c.game ≡ side
  pub game_is : kind.game engine ≡ ruled kind.rule c.game

module _ {B W : Type 0} (black : Kind B) (white : Kind W) where
  -- An engine that runs, and whose side the controller counts as in step, is there; and two such engines hold the same
  -- game. An engine that waits for a choice, before a verdict, is asked for it there. An engine whose side has answered
  -- all that it was sent waits for nothing of its author. None ever waits for an answer to a line of his own. The lists
  -- are short, and no verdict blames an engine except for a fourth refusal.
  pub record StepsAgree (world : WorldOf B W) : Type 0 where
    pub there : (side : Colour) (engine : at_side B W side) → (lane_at world side).engine ≡ Some engine
        → in_step world.controller side ≡ true → IsThere (kind_at black white side) world.controller.game engine
    pub same : (one : B) (two : W) → world.black.engine ≡ Some one → world.white.engine ≡ Some two
        → in_step world.controller Black ≡ true → in_step world.controller White ≡ true
        → Holds (black.game one) (white.game two)
    pub asked : (side colour : Colour) (engine : at_side B W side)
        → (lane_at world side).engine ≡ Some engine → world.controller.verdict ≡ None
        → (kind_at black white side).wait engine ≡ wait.Choice colour
        → IsAskedThere (kind_at black white side) world.controller side colour engine
    pub answered : (side : Colour) (engine : at_side B W side) (run : EngineRun)
        → (lane_at world side).engine ≡ Some engine → (side_of world.controller.sides side).up ≡ Some run
        → run.unanswered ≡ [] → (kind_at black white side).wait engine ≡ wait.Nothing
    pub no_line_of_its_own : (side : Colour) (engine : at_side B W side)
        → (lane_at world side).engine ≡ Some engine → (kind_at black white side).wait engine ≢ wait.Answer
    pub room : (side : Colour)
        → (length (lane_at world side).to_engine ≤ most_to_engine)
        × (length (lane_at world side).to_controller ≤ most_to_controller)
    pub fair : IsFair (rules_by black white) world.controller world.controller.verdict

  -- after every list of events from the opening of any setup
  abbrev pub StepsAlwaysAgree : Type 0
  StepsAlwaysAgree = (setup : SetupRecord) (events : List EventOrCall) (world : WorldOf B W) → IsSetup setup
      → RunsBy black white as_any (opening setup) events world → StepsAgree world

-- ---- where such a world goes

-- the policies of which nothing is known but that what they choose is lawful
abbrev pub any_lawful : May (Unit {0})
any_lawful old game colour choice new = IsLawful game colour choice

abbrev pub any_policies : KoRule → SidePolicies (Unit {0})
any_policies rule = record { may = any_lawful; made = λ policy. Unit {0}; rule = rule }

-- the game of an engine of a kind, where one runs
abbrev pub game_by : {E : Type 0} → Kind E → Option E → Option GameRecord
game_by kind None = None
game_by kind (Some engine) = Some (kind.game engine)

-- An engine is like that of a session. It has read these bytes, which are still on their way there. Neither holds
-- back a whole line. Where the engine waits for its author, take what is held back there, then these bytes, and then
-- whatever comes later. The first line is the one that waits, and the lines after it are those of what the engine holds
-- back with what comes later. Where the engine waits for nothing, these bytes are none, and both hold back the same
-- text.
pub record IsEngineLike {E P : Type 0} (kind : Kind E) (engine : E) (like : Engine P) (read : List ℕ) : Type 0 where
  pub own_unread : lines (kind.rest engine) ≡ []
  pub unread : lines like.rest ≡ []
  pub waits : kind.wait engine ≢ wait.Nothing → (later : List ℕ)
      → lines (like.rest ++ (read ++ later)) ≡ kind.line engine ∷ lines (kind.rest engine ++ later)
  pub waits_not : kind.wait engine ≡ wait.Nothing → (read ≡ []) × (like.rest ≡ kind.rest engine)

-- A side is like a lane of sessions. The games of the two engines are the same, and so are the bytes on their way
-- to the controller. Of the bytes on their way to the lane's engine the side's engine may have read some: those of the
-- line that waits for its author, and none where none waits.
pub record IsLike {E P : Type 0} (kind : Kind E) (one : LaneOf E) (lane : Lane P) : Type 0 where
  pub game : game_in lane.engine ≡ game_by kind one.engine
  pub to_controller : lane.to_controller ≡ one.to_controller
  pub read : List ℕ
  pub to_engine : lane.to_engine ≡ read ++ one.to_engine
  pub none_read : ((engine : E) → one.engine ≡ Some engine → kind.wait engine ≡ wait.Nothing) → read ≡ []
  -- what was read is the end of the line that waits, and what the engine holds back after that line
  pub engines : (engine : E) (like : Engine P) → one.engine ≡ Some engine → lane.engine ≡ Some like
      → IsEngineLike kind engine like read

-- After every list of events from the opening of any setup, some events lead to a world of sessions that has the same
-- controller, and lanes that both sides are like.
abbrev pub GoesAlong : {B W P Q : Type 0} → Kind B → Kind W → SidePolicies P → SidePolicies Q → Type 0
GoesAlong {B} {W} {P} {Q} black white policies_black policies_white =
    (setup : SetupRecord) (events : List EventOrCall) (world : WorldOf B W) → IsSetup setup
    → RunsBy black white as_any (opening setup) events world
    → (defined : World P Q) × Reached policies_black policies_white setup defined
    × (defined.controller ≡ world.controller)
    × IsLike black world.black defined.black × IsLike white world.white defined.white

-- ---- of which kinds

-- A law of the kinds of both sides holds where the engines of both are sans-IO, whatever the two ko rules.
abbrev pub BothInSteps : (Kind StepsState → Kind StepsState → Type 0) → Type 0
BothInSteps Law = (black white : KoRule) → Law (in_steps black) (in_steps white)

-- It holds where Black's engines are sans-IO, and White's are sessions with any policies that a maker makes; whatever
-- the two ko rules.
abbrev pub BlackInSteps : {M P : Type 0} → (Making M → SidePolicies P) → (Kind StepsState → Kind (Engine P) → Type 0)
    → Type 0
BlackInSteps {M} white_by Law =
    (black : KoRule) (white : Making M) → Law (in_steps black) (sessions_by white_by white)

-- the same with White's sans-IO
abbrev pub WhiteInSteps : {M P : Type 0} → (Making M → SidePolicies P) → (Kind (Engine P) → Kind StepsState → Type 0)
    → Type 0
WhiteInSteps {M} black_by Law =
    (black : Making M) (white : KoRule) → Law (sessions_by black_by black) (in_steps white)

-- Where such worlds go, of the same three. A sans-IO engine is like one whose policy may choose all that is lawful,
-- and a session is like itself.
abbrev pub BothGoAlong : Type 0
BothGoAlong = (black white : KoRule)
    → GoesAlong (in_steps black) (in_steps white) (any_policies black) (any_policies white)

abbrev pub BlackGoesAlong : {M P : Type 0} → (Making M → SidePolicies P) → Type 0
BlackGoesAlong {M} white_by = (black : KoRule) (white : Making M)
    → GoesAlong (in_steps black) (sessions_by white_by white) (any_policies black) (white_by white)

abbrev pub WhiteGoesAlong : {M P : Type 0} → (Making M → SidePolicies P) → Type 0
WhiteGoesAlong {M} black_by = (black : Making M) (white : KoRule)
    → GoesAlong (sessions_by black_by black) (in_steps white) (black_by black) (any_policies white)
