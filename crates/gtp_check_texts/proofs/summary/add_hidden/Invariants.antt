use Rattle.std.proofs.Common.{◌≡◌, ◌++◌, map, take}
use Rattle.std.specs.List.{concat}
use Rattle.gtp_check_course.specs.Lessons.{all_lessons}
use Rattle.gtp_check_texts.specs.Summary.{hidden_line}
use Rattle.gtp_check_texts.proofs.summary.add_hidden.Given as goal

-- the lines of the lessons so far
abbrev pub invariant-loop-lesson : goal.invariant-loop-lesson
invariant-loop-lesson l =
    l.text.items ≡ l.initial.text.items ++ concat (map (hidden_line l.hidden) (take l.lesson-index all_lessons))
