use Rattle.gtp_check_course.proofs.PosedQuestions.{each_asked}
use Rattle.gtp_check_course.proofs.laws.each_question_is_asked.Goals as goal

pub returns : goal.returns
returns c = each_asked
