-- What must hold before a step.
use Rattle.std.specs.Prelude.{◌<◌, length, IfSome, IsSome}
use Rattle.go_base.specs.Handicap.{AllowsHandicap}
use Rattle.go_base.specs.Int.{most_int}
use Rattle.go_base.specs.declared.colours.Colour.{Colour}
use Rattle.go_board.specs.Game.{GameRecord, HasRoom, IsLegal}
use Rattle.gtp_wire.specs.declared.commands.Command.{Command}
use Rattle.gtp_wire.specs.declared.commands.Command.TheVariants.{Boardsize, Komi, ClearBoard, FixedHandicap, Play}
use Rattle.gtp_wire.specs.declared.commands.Command.TheVariants.{Genmove, Undo, Quit}
use Rattle.gtp_match.specs.Sides.{side_of}
use Rattle.gtp_match.specs.Unanswered.{most_unanswered, oldest}
use Rattle.gtp_match.specs.declared.controller.Controller.{Controller}
use Rattle.gtp_match.specs.declared.sides.EngineRun.{EngineRun}
use Rattle.gtp_match.specs.declared.reply_table.Outcome.{Outcome}
use Rattle.gtp_match.specs.declared.reply_table.Outcome.TheVariants.{Down, Unfit, Forfeits, Confirms, Resigns, Moves}
use Rattle.gtp_match.specs.declared.reply_table.Outcome.TheVariants.{Refuses, TakesBack, Keeps}

-- an engine may be sent a command more
abbrev pub MayBeSentMore : EngineRun → Type 0
MayBeSentMore engine = (engine.sent < most_int) × (length engine.unanswered < most_unanswered)

-- a reply to the command may be judged: where it is a handicap, the game's size allows it
abbrev pub MayBeAnswered : GameRecord → Command → Type 0
MayBeAnswered game (FixedHandicap stones) = AllowsHandicap game.size stones
MayBeAnswered game (Boardsize size) = Unit {0}
MayBeAnswered game (Komi komi) = Unit {0}
MayBeAnswered game ClearBoard = Unit {0}
MayBeAnswered game (Play move) = Unit {0}
MayBeAnswered game (Genmove colour) = Unit {0}
MayBeAnswered game Undo = Unit {0}
MayBeAnswered game Quit = Unit {0}

-- an engine that is up may be heard: its oldest command may be judged, and one more may be confirmed
pub record MayReply (game : GameRecord) (engine : EngineRun) : Type 0 where
  pub answered : IfSome (oldest engine.unanswered) (λ entry. MayBeAnswered game entry.command)
  pub confirmed : engine.confirmed < most_int

-- a side may be heard: the record isn't full
pub record MayHear (c : Controller) (side : Colour) : Type 0 where
  pub room : HasRoom c.game
  pub engine : IfSome (side_of c.sides side).up (MayReply c.game)

-- a move is legal where one is made
abbrev pub MayBe : GameRecord → Colour → Outcome → Type 0
MayBe game side (Moves v) = IsLegal game side v × HasRoom game
MayBe game side (Down fault) = Unit {0}
MayBe game side Unfit = Unit {0}
MayBe game side (Forfeits cause) = Unit {0}
MayBe game side Confirms = Unit {0}
MayBe game side Resigns = Unit {0}
MayBe game side Refuses = Unit {0}
MayBe game side TakesBack = Unit {0}
MayBe game side Keeps = Unit {0}

-- what a reply does may be done: the side is up, and may confirm one command more
pub record MayApply (c : Controller) (side : Colour) (made : Outcome) : Type 0 where
  pub outcome : MayBe c.game side made
  pub up : IsSome (side_of c.sides side).up
  pub engine : IfSome (side_of c.sides side).up (λ engine. engine.confirmed < most_int)
