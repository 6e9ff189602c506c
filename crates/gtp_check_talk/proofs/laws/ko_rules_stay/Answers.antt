use Rattle.gtp_check_talk.proofs.Rules.{rule_stays}
use Rattle.gtp_check_talk.proofs.laws.ko_rules_stay.Goals as goal

pub returns : goal.returns
returns g c start after fault ends = rule_stays g.P.Process start after fault ends
