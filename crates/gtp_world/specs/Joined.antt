-- What joins the controller, the engines and the bytes between them. It holds in the opening, each event keeps it, and
-- it says that a running engine whose side is in step is at the controller's game, under its own ko rule.
use Rattle.std.specs.Prelude.{◌≡◌, ℕ, ◌+◌, ◌≤◌, ◌⊎◌, Bool, true, false, List, [], ◌++◌, length, Option, None, Some}
use Rattle.std.specs.List.{AllByRecursion}
use Rattle.go_base.specs.Colour.{other}
use Rattle.go_base.specs.declared.colours.Colour.{Colour}
use Rattle.go_base.specs.declared.colours.Colour.TheVariants.{Black, White}
use Rattle.go_board.specs.Game.{GameRecord, IsGame, without_last}
use Rattle.go_board.specs.declared.rules.KoRule.{KoRule}
use Rattle.go_board.specs.declared.rules.KoRule.TheVariants.{Simple, Positional}
use Rattle.gtp_wire.specs.declared.replies.Reply.{Reply}
use Rattle.gtp_wire.specs.Lines.{lines, SameFuture}
use Rattle.gtp_wire.specs.Replies.{GivesNoAnswer}
use Rattle.gtp_session.specs.Engine.{Engine}
use Rattle.gtp_match.specs.declared.unanswered.SentCommand.{SentCommand}
use Rattle.gtp_match.specs.declared.sides.EngineRun.{EngineRun}
use Rattle.gtp_match.specs.declared.verdicts.Verdict.{Verdict}
use Rattle.gtp_match.specs.declared.verdicts.Verdict.TheVariants.{Score, Resign, Limit, Forfeit, Unfit, Abandoned}
use Rattle.gtp_match.specs.declared.controller.Controller.{Controller}
use Rattle.gtp_match.specs.Hearing.{MayKeep}
use Rattle.gtp_match.specs.Sides.{side_of}
use Rattle.gtp_match.specs.Sound.{IsSound}
use Rattle.gtp_match.specs.Unanswered.{most_unanswered}
use Rattle.gtp_match.specs.Retakes.{most_retakes, retakes_of}
use Rattle.gtp_match.specs.Taking.{moved_last, has_all}
use Rattle.gtp_match.specs.declared.verdicts.ForfeitCause.TheVariants.{RefusedPlay, NoMove, NoVertex, IllegalMove}
use Rattle.gtp_world.specs.Lane.{LaneOf, Lane, empty_lane}
use Rattle.gtp_world.specs.World.{World}
use Rattle.gtp_world.specs.Exchange.{CanBeWritten, all_sent_bytes, all_reply_bytes, Owes, AllMayBeSent, replayed}

-- ---- ko rules

-- the ko rules of the engines of both sides
pub record Rules : Type 0 where
  pub black : KoRule
  pub white : KoRule

abbrev pub rule_of : Rules → Colour → KoRule
rule_of rules Black = rules.black
rule_of rules White = rules.white

-- the game under this ko rule
abbrev pub ruled : KoRule → GameRecord → GameRecord
ruled rule game = record game { rule = rule }

-- What a side's engine can replay under its ko rule: the game without its last move, and the whole game where the side
-- made the last move, or where its engine has confirmed the whole script.
pub record IsPlayable (rule : KoRule) (game : GameRecord) (side : Colour) (up : Option EngineRun) : Type 0 where
  pub earlier : IsGame (without_last (ruled rule game))
  pub last : (moved_last game side ≡ true) ⊎ (has_all game up ≡ true) → IsGame (ruled rule game)

-- ---- engines and lanes, without the policy

pub record EngineBody : Type 0 where
  pub rest : List ℕ
  pub game : GameRecord
  pub ended : Bool

abbrev pub body : {P : Type 0} → Engine P → EngineBody
body engine = record { rest = engine.rest; game = engine.game; ended = engine.ended }

abbrev pub BareLane : Type 0
BareLane = LaneOf EngineBody

abbrev pub body_of : {P : Type 0} → Option (Engine P) → Option EngineBody
body_of None = None
body_of (Some engine) = Some (body engine)

abbrev pub bare : {P : Type 0} → Lane P → BareLane
bare lane = record { engine = body_of lane.engine; to_engine = lane.to_engine; to_controller = lane.to_controller }

-- no engine, and empty lists
abbrev pub bare_empty : BareLane
bare_empty = empty_lane

-- ---- bytes on their way to an engine

-- A running engine is at this game, and its rest with the bytes on their way to it are these commands: the rest reads,
-- with every text after it, as the part of a command that was read, and the bytes on their way are all that follows.
pub record WillRead (engine : EngineBody) (coming : List ℕ) (ahead : GameRecord)
    (waiting : List SentCommand) : Type 0 where
  pub going : engine.ended ≡ false
  pub game : engine.game ≡ ahead
  -- the bytes read since the last whole line
  pub begun : List ℕ
  pub begun_open : lines begun ≡ []
  pub rest_reads : SameFuture engine.rest begun
  pub arriving : begun ++ coming ≡ all_sent_bytes waiting

-- where no engine runs, nothing is on its way
abbrev pub WillReadWhereRunning : Option EngineBody → List ℕ → GameRecord → List SentCommand → Type 0
WillReadWhereRunning None coming ahead waiting = coming ≡ []
WillReadWhereRunning (Some engine) coming ahead waiting = WillRead engine coming ahead waiting

-- ---- one side

-- bytes of replies are lost only with the engine
abbrev pub CutByCrash : Option EngineBody → List ℕ → Type 0
CutByCrash None cut = Unit {0}
CutByCrash (Some engine) cut = cut ≡ []

-- A side that is up, before any verdict. At the game to which the confirmed commands brought it, the engine was sent
-- the unanswered ones: some of them it has answered, the others wait. The bytes that the controller heard since the
-- last whole reply, with the bytes on their way to it and those that were lost with the engine, are those replies.
pub record IsJoinedInPlay (game : GameRecord) (side : EngineRun) (lane : BareLane) : Type 0 where
  pub few : length side.unanswered ≤ most_unanswered
  pub replies : List Reply
  pub waiting : List SentCommand
  pub ahead : GameRecord
  pub owes : Owes (replayed game side.confirmed) side.unanswered replies waiting ahead
  pub fit : AllByRecursion CanBeWritten waiting
  pub may : AllMayBeSent ahead waiting
  -- heard since the last whole reply, and lost with the engine
  pub begun : List ℕ
  pub cut : List ℕ
  pub begun_quiet : GivesNoAnswer begun
  pub kept : MayKeep side.reader begun
  pub arriving : (begun ++ lane.to_controller) ++ cut ≡ all_reply_bytes replies
  pub runs : WillReadWhereRunning lane.engine lane.to_engine ahead waiting
  pub uncut : CutByCrash lane.engine cut

-- How a side and its engine are joined after a verdict, when what is heard is dropped: of the bytes on their way to the
-- controller it says only that they are no more than those of the replies.
pub record IsJoinedAtEnd (game : GameRecord) (side : EngineRun) (lane : BareLane) : Type 0 where
  pub few : length side.unanswered ≤ most_unanswered
  pub replies : List Reply
  pub waiting : List SentCommand
  pub ahead : GameRecord
  pub owes : Owes (replayed game side.confirmed) side.unanswered replies waiting ahead
  pub fit : AllByRecursion CanBeWritten waiting
  pub may : AllMayBeSent ahead waiting
  pub runs : WillReadWhereRunning lane.engine lane.to_engine ahead waiting
  pub room : length lane.to_controller ≤ length (all_reply_bytes replies)

-- a side and its lane; one that is down has an empty lane
abbrev pub IsJoinedSide : GameRecord → Option Verdict → Option EngineRun → BareLane → Type 0
IsJoinedSide game verdict None lane = lane ≡ bare_empty
IsJoinedSide game None (Some side) lane = IsJoinedInPlay game side lane
IsJoinedSide game (Some verdict) (Some side) lane = IsJoinedAtEnd game side lane

-- ---- the world

-- A side refused the last move for the fourth time: it plays under positional ko, the other side made the move under
-- simple ko, the game with it is none under positional ko, and moves of that number were retaken three times, as often
-- as may be. So this verdict is the fourth refusal. No `undo` failed: nothing is to be taken back.
pub record IsRefusal (rules : Rules) (c : Controller) (side : Colour) : Type 0 where
  pub positional : rule_of rules side ≡ Positional
  pub simple : rule_of rules (other side) ≡ Simple
  pub by_other : moved_last c.game (other side) ≡ true
  pub repeats : ¬ IsGame (ruled Positional c.game)
  pub often : retakes_of c.retakes (length c.game.moves) ≡ most_retakes
  pub nothing : c.pending ≡ None

-- No verdict blames an engine, but one that refused moves of one number four times; and a side is abandoned only after
-- all its starts.
abbrev pub IsFair : Rules → Controller → Option Verdict → Type 0
IsFair rules c None = Unit {0}
IsFair rules c (Some (Forfeit side RefusedPlay)) = IsRefusal rules c side
IsFair rules c (Some (Forfeit side NoMove)) = ⊥
IsFair rules c (Some (Forfeit side NoVertex)) = ⊥
IsFair rules c (Some (Forfeit side IllegalMove)) = ⊥
IsFair rules c (Some (Unfit side)) = ⊥
IsFair rules c (Some (Abandoned side)) = (side_of c.sides side).starts ≡ c.setup.max_restarts + 1
IsFair rules c (Some (Score half_points)) = Unit {0}
IsFair rules c (Some (Resign side)) = Unit {0}
IsFair rules c (Some Limit) = Unit {0}

-- one side with its lane, under its ko rule
pub record IsJoinedUnder (rule : KoRule) (c : Controller) (side : Colour) (lane : BareLane) : Type 0 where
  pub joined : IsJoinedSide (ruled rule c.game) c.verdict (side_of c.sides side).up lane
  pub playable : IsPlayable rule c.game side (side_of c.sides side).up

-- a sound controller with a fair verdict, and both sides with their lanes: the lane of this side, and that of the other
pub record AreJoined (rules : Rules) (c : Controller) (side : Colour) (lane others : BareLane) : Type 0 where
  pub sound : IsSound c
  pub fair : IsFair rules c c.verdict
  pub mine : IsJoinedUnder (rule_of rules side) c side lane
  pub theirs : IsJoinedUnder (rule_of rules (other side)) c (other side) others

abbrev pub IsJoined : {B W : Type 0} → Rules → World B W → Type 0
IsJoined rules world = AreJoined rules world.controller Black (bare world.black) (bare world.white)
