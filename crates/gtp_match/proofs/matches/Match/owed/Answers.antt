use Rattle.gtp_match.proofs.reporting.AllBytes.{owed_shown}
use Rattle.gtp_match.proofs.matches.Match.owed.Goals as goal

pub returns-clause-shown : goal.returns-clause-shown
returns-clause-shown c = rw c.owed.ensures (owed_shown c.self.inside.state c.args.side c.self.invariant)
