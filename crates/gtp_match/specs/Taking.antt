-- Which move may be taken back, and at which side that is pending.
use Rattle.std.specs.Prelude.{◌+◌, ◌-◌, ◌==◌, ◌&&◌, Bool, false, length, slice_get, nat_lt, Option, None, Some}
use Rattle.std.specs.Prelude.{if◌then◌else◌}
use Rattle.go_base.specs.Colour.{other}
use Rattle.go_base.specs.declared.colours.Colour.{Colour}
use Rattle.go_base.specs.declared.moves.Move.{Move}
use Rattle.go_board.specs.Game.{GameRecord, without_last}
use Rattle.go_board.specs.Taken.{same_colour}
use Rattle.gtp_match.specs.Retakes.{most_retakes, retakes_of}
use Rattle.gtp_match.specs.Script.{script}
use Rattle.gtp_match.specs.declared.controller.Controller.{Controller}
use Rattle.gtp_match.specs.declared.sides.EngineRun.{EngineRun}
use Rattle.gtp_match.specs.declared.verdicts.Verdict.{Verdict}

-- ---- which move

-- the last move of a game, if it has one
abbrev pub last_move : GameRecord → Option Move
last_move game = slice_get game.moves (length game.moves - 1)

abbrev pub is_by : Option Move → Colour → Bool
is_by None colour = false
is_by (Some move) colour = same_colour move.colour colour

-- this colour made the last move
abbrev pub moved_last : GameRecord → Colour → Bool
moved_last game colour = is_by (last_move game) colour

-- the engine's oldest unanswered command of the script is its last one
abbrev pub owes_last : GameRecord → EngineRun → Bool
owes_last game engine = engine.confirmed + 1 == length (script game)

-- A `play` that the side refuses may be retaken: it is that of the last move, which the other side made, and moves of
-- this number were retaken less than three times.
abbrev pub may_retake : Controller → Colour → EngineRun → Bool
may_retake c side engine =
    owes_last c.game engine
    && (moved_last c.game (other side)
    && nat_lt (retakes_of c.retakes (length c.game.moves)) most_retakes)

-- the side is up and has confirmed the whole script
abbrev pub has_all : GameRecord → Option EngineRun → Bool
has_all game None = false
has_all game (Some engine) = engine.confirmed == length (script game)

-- ---- a take-back that is pending

abbrev pub unless_over : Option Verdict → Option Colour → Option Colour
unless_over None maker = maker
unless_over (Some verdict) maker = None

-- the maker whose last move is to be taken back; none once a verdict was given
abbrev pub taking_back : Controller → Option Colour
taking_back c = unless_over c.verdict c.pending

abbrev pub is_maker : Option Colour → Colour → Bool
is_maker None side = false
is_maker (Some maker) side = same_colour maker side

-- the side's last move is to be taken back
abbrev pub takes_back : Controller → Colour → Bool
takes_back c side = is_maker (taking_back c) side

-- Where such a side goes down, its move leaves the record, and nothing is pending.
abbrev pub game_when_down : Controller → Colour → GameRecord
game_when_down c side = if takes_back c side then without_last c.game else c.game

abbrev pub pending_when_down : Controller → Colour → Option Colour
pending_when_down c side = if takes_back c side then None else c.pending
