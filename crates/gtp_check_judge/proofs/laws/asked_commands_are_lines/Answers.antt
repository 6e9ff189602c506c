use Rattle.gtp_check_judge.proofs.commands.Lines.{asked_line}
use Rattle.gtp_check_judge.proofs.laws.asked_commands_are_lines.Goals as goal

pub returns : goal.returns
returns c old new command later room asks = asked_line old new command later room asks
