use Rattle.std.proofs.Common.{◌≡◌, ◌++◌, ◌∙◌, ap, arith, map, take}
use Rattle.std.specs.List.{concat}
use Rattle.gtp_check_course.specs.Lessons.{all_lessons}
use Rattle.gtp_check_texts.specs.Summary.{hidden_line}
use Rattle.gtp_check_texts.proofs.Joining.{appended-step}
use Rattle.gtp_check_texts.proofs.summary.add_hidden.Goals as goal

pub loop-lesson-preserved : goal.loop-lesson-preserved
loop-lesson-preserved c =
    c.in_ok-add_hidden_of.ensures
    ∙ appended-step (hidden_line c.args.hidden.now) all_lessons c.loop-lesson.lesson-index _ c.args.text.now.items
    c.loop-lesson.text.items c.loop-lesson-test.true c.loop-lesson.invariant

pub returns : goal.returns
returns c =
    let whole : c.loop-lesson.lesson-index ≡ 15 =
    omega (arith, c.loop-lesson-test.false, c.loop-lesson.auto.lesson-index-end) in
    c.loop-lesson.invariant
    ∙ ap (λ number.
    c.args.text.now.items ++ concat (map (hidden_line c.args.hidden.now) (take number all_lessons))) whole
