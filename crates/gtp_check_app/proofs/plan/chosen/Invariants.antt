use Rattle.gtp_check_app.specs.Plans.{is_chosen}
use Rattle.gtp_check_app.proofs.LessonLoops.{AreKept}
use Rattle.gtp_check_app.proofs.plan.chosen.Given as goal

-- those of the lessons so far are kept
abbrev pub invariant-loop-lesson : goal.invariant-loop-lesson
invariant-loop-lesson l = AreKept (is_chosen l.options) l.lesson-index l.lessons
