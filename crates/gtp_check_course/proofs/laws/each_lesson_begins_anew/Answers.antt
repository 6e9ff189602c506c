use Rattle.gtp_check_course.proofs.FreshLessons.{each_anew}
use Rattle.gtp_check_course.proofs.laws.each_lesson_begins_anew.Goals as goal

pub returns : goal.returns
returns c = each_anew
