-- Each lesson but the first of all begins with a start of the engine.
use Rattle.std.proofs.Common.{refl, arith}
use Rattle.gtp_check_course.specs.declared.lessons.Lesson.TheVariants as lesson
use Rattle.gtp_check_course.specs.Laws.{EachLessonBeginsAnew}

pub each_anew : EachLessonBeginsAnew
each_anew lesson.Start few = absurd (omega (arith, few))
each_anew lesson.Placed few = refl
each_anew lesson.Errors few = refl
each_anew lesson.Sizes few = refl
each_anew lesson.Ko few = refl
each_anew lesson.Captures few = refl
each_anew lesson.Suicide few = refl
each_anew lesson.Joining few = refl
each_anew lesson.Handicaps few = refl
each_anew lesson.Komi few = refl
each_anew lesson.Drawn few = refl
each_anew lesson.Record few = refl
each_anew lesson.Genmoves few = refl
each_anew lesson.Games few = refl
each_anew lesson.Restarts few = refl
