use Rattle.std.specs.Prelude.{not}
use Rattle.gtp_check_app.specs.Plans.{is_chosen}
use Rattle.gtp_check_app.proofs.LessonLoops.{AreKept}
use Rattle.gtp_check_app.proofs.plan.left_out.Given as goal

-- those of the lessons so far are kept
abbrev pub invariant-loop-lesson : goal.invariant-loop-lesson
invariant-loop-lesson l = AreKept (λ lesson. not (is_chosen l.options lesson)) l.lesson-index l.lessons
