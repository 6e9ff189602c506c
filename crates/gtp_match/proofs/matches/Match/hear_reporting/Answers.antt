use Rattle.gtp_match.proofs.reporting.Exact.{chunk_exact}
use Rattle.gtp_match.proofs.matches.Match.hear_reporting.Goals as goal

pub returns-clause-heard : goal.returns-clause-heard
returns-clause-heard c = (c.hear_each.result, c.hear_each.ensures.heard)

pub returns-clause-exact : goal.returns-clause-exact
returns-clause-exact c = (c.hear_each.result, chunk_exact _ _ _ _ _ _ _ c.hear_each.ensures.heard)
