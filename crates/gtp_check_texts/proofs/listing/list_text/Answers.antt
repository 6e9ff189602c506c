use Rattle.std.proofs.Common.{◌≡◌, ◌∙◌, [], ap, arith, map, take}
use Rattle.std.specs.List.{concat}
use Rattle.gtp_check_course.specs.Lessons.{all_lessons}
use Rattle.gtp_check_texts.specs.Listing.{lesson_line}
use Rattle.gtp_check_texts.proofs.Joining.{appended-step}
use Rattle.gtp_check_texts.proofs.listing.list_text.Goals as goal

pub loop-lesson-preserved : goal.loop-lesson-preserved
loop-lesson-preserved c =
    c.in_ok-add_line.ensures
    ∙ appended-step lesson_line all_lessons c.loop-lesson.lesson-index _ [] c.loop-lesson.text.items
    c.loop-lesson-test.true c.loop-lesson.invariant

pub returns : goal.returns
returns c =
    let whole : c.loop-lesson.lesson-index ≡ 15 =
    omega (arith, c.loop-lesson-test.false, c.loop-lesson.auto.lesson-index-end) in
    c.loop-lesson.invariant ∙ ap (λ number. concat (map lesson_line (take number all_lessons))) whole
