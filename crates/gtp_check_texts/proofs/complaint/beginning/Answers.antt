use Rattle.std.proofs.lemmas.List.{take_min}
use Rattle.gtp_check_texts.proofs.complaint.beginning.Goals as goal

pub returns-clause-beginning : goal.returns-clause-beginning
returns-clause-beginning c = rw c.min.ensures (take_min 80 c.args.wrote.now)
