-- What a controller may send to an engine, whether it goes well there or not.
use Rattle.std.specs.Prelude.{◌<◌, ◌≤◌, length}
use Rattle.go_base.specs.Size.{IsSize, most_size}
use Rattle.go_base.specs.Vertex.{IsVertex}
use Rattle.go_board.specs.Game.{GameRecord, HasRoom}
use Rattle.gtp_wire.specs.declared.commands.Command.{Command}
use Rattle.gtp_wire.specs.declared.commands.Command.TheVariants.{Boardsize, Komi, ClearBoard, FixedHandicap, Play}
use Rattle.gtp_wire.specs.declared.commands.Command.TheVariants.{Genmove, Undo, Quit}
use Rattle.gtp_session.specs.CommandAnswers.{GoesWell}

-- A command of a script that goes well; or a `genmove` where the record has room and the size is at most 25; or a move,
-- legal or not, to a vertex of some board where the record has room and the size is one of a board; or `undo` where
-- there is a move.
abbrev pub MayBeSent : GameRecord → Command → Type 0
MayBeSent game (Boardsize size) = GoesWell game (Boardsize size)
MayBeSent game (Komi komi) = GoesWell game (Komi komi)
MayBeSent game ClearBoard = GoesWell game ClearBoard
MayBeSent game (FixedHandicap stones) = GoesWell game (FixedHandicap stones)
MayBeSent game (Play move) = HasRoom game × (IsVertex move.vertex × IsSize game.size)
MayBeSent game (Genmove colour) = HasRoom game × (game.size ≤ most_size)
MayBeSent game Undo = 0 < length game.moves
MayBeSent game Quit = ⊥
