-- A command that fails leaves the game as it was.
use Rattle.std.proofs.Common.{◌≡◌, ℕ, List, false, Option, Some, None, refl}
use Rattle.go_base.specs.declared.choices.Choice.{Choice}
use Rattle.go_board.specs.Game.{GameRecord}
use Rattle.gtp_wire.specs.declared.lines.Line.{Line}
use Rattle.gtp_wire.specs.declared.lines.Line.TheVariants as line
use Rattle.gtp_session.specs.declared.commands.CommandName.{CommandName}
use Rattle.gtp_session.specs.Commands.{answer, answer_to_named, named_command, row_of}
use Rattle.gtp_session.proofs.table.Rows.{row_keeps}

named_keeps : (game : GameRecord) (named : Option CommandName) (words : List (List ℕ)) (ch : Choice)
    → (answer_to_named game named words ch).ok ≡ false → (answer_to_named game named words ch).game ≡ game
named_keeps game None words ch e = refl
named_keeps game (Some c) words ch e = row_keeps (row_of c) game ((row_of c).read words) ch e

pub failures_keep : (game : GameRecord) (l : Line) (ch : Choice)
    → (answer game l ch).ok ≡ false → (answer game l ch).game ≡ game
failures_keep game line.TooLong ch e = refl
failures_keep game (line.Command cl) ch e = named_keeps game (named_command cl.words) cl.words ch e
