use Rattle.std.proofs.Common.{rules}
use Rattle.gtp_check_course.proofs.course.Course.ask_opening.Goals as goal

pub returns-clause-goes : goal.returns-clause-goes
returns-clause-goes c = (
  search rules,
  λ left. c.requires.kept _ c.args.examiner.now.exam.game left,
  search rules,
)
