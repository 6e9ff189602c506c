-- Whether a lesson is among others. (Own.)
use Rattle.std.specs.Prelude.{◌==◌, Bool, List}
use Rattle.std.specs.List.{list_any}
use Rattle.gtp_check_course.specs.Lessons.{number_of}
use Rattle.gtp_check_course.specs.declared.lessons.Lesson.{Lesson}

-- the lesson is among these
abbrev pub is_among : List Lesson → Lesson → Bool
is_among lessons lesson = list_any (λ one. number_of one == number_of lesson) lessons
