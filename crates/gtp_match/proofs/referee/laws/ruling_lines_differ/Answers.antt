use Rattle.gtp_match.proofs.refereeing.LinesDiffer.{ruling_lines_differ}
use Rattle.gtp_match.proofs.referee.laws.ruling_lines_differ.Goals as goal

pub returns : goal.returns
returns c = ruling_lines_differ
