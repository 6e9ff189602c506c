use Rattle.std.proofs.Common.{◌≡◌}
use Rattle.gtp_session.specs.Commands.{named_command}
use Rattle.gtp_session.proofs.author_texts.text_for.Goals as goal

pub returns-in-Command : goal.returns-in-Command
returns-in-Command c = λ s same.
    let named : c.args.command ≡ named_command c.in-Command.line.words = rw c.in-Command.is at c.requires in
    rw (c.in-Command.is, ← named) (c.text_by_command.ensures s same)
