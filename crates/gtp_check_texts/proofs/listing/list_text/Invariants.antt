use Rattle.std.proofs.Common.{◌≡◌, map, take}
use Rattle.std.specs.List.{concat}
use Rattle.gtp_check_course.specs.Lessons.{all_lessons}
use Rattle.gtp_check_texts.specs.Listing.{lesson_line}
use Rattle.gtp_check_texts.proofs.listing.list_text.Given as goal

-- the lines of the lessons so far
abbrev pub invariant-loop-lesson : goal.invariant-loop-lesson
invariant-loop-lesson l = l.text.items ≡ concat (map lesson_line (take l.lesson-index all_lessons))
