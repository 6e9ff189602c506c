use Rattle.std.specs.Prelude.{map}
use Rattle.gtp_check_app.specs.Options.{is_named}
use Rattle.gtp_check_app.proofs.LessonLoops.{AreKept}
use Rattle.gtp_check_app.proofs.options.lessons_named.Given as goal

-- those of the lessons so far are kept
abbrev pub invariant-loop-lesson : goal.invariant-loop-lesson
invariant-loop-lesson l = AreKept (is_named (map (λ name. name.now) l.names)) l.lesson-index l.lessons
