-- A line ends the session where its first word is `quit`.
use Rattle.std.specs.Prelude.{◌↔◌, IsTrue, codes}
use Rattle.gtp_wire.specs.declared.lines.Line.{Line}
use Rattle.gtp_wire.specs.declared.lines.Line.TheVariants as line
use Rattle.gtp_session.specs.declared.commands.CommandName.TheVariants.{Quit}
use Rattle.gtp_session.specs.Commands.{named_command, ends}
use Rattle.gtp_session.specs.TableLaws.{LineNames}
use Rattle.gtp_session.proofs.table.Names.{has_name-Decides}
use Rattle.gtp_session.proofs.table.LinesOfWords.{names_of, of_names}

pub quit_lines : (l : Line) → IsTrue (ends l) ↔ LineNames l (codes "quit")
quit_lines line.TooLong = (λ h. cc, λ h. absurd h)
quit_lines (line.Command cl) =
    let test = has_name-Decides (named_command cl.words) Quit in
    (λ h. names_of cl.words Quit (test.0 h), λ h. test.1 (of_names cl.words Quit h))
