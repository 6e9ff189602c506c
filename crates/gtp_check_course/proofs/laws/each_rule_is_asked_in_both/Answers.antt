use Rattle.gtp_check_course.proofs.AskedScenes.{each_in_both}
use Rattle.gtp_check_course.proofs.laws.each_rule_is_asked_in_both.Goals as goal

pub returns : goal.returns
returns c = each_in_both
