use Rattle.gtp_check_course.proofs.AnsweredKos.{each_ko}
use Rattle.gtp_check_course.proofs.laws.each_ko_is_answered.Goals as goal

pub returns : goal.returns
returns c = each_ko
