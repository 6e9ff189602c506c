use Rattle.std.proofs.Common.{◌≡◌, ◌++◌, ◌∙◌, Bool, ap, arith, map, slice_index_or, take}
use Rattle.std.specs.List.{concat}
use Rattle.gtp_check_course.specs.Lessons.{all_lessons}
use Rattle.gtp_check_texts.specs.Summary.{is_unplayed, unplayed_line}
use Rattle.gtp_check_texts.proofs.Joining.{appended-step}
use Rattle.gtp_check_texts.proofs.summary.add_unplayed.Goals as goal

pub loop-lesson-preserved : goal.loop-lesson-preserved
loop-lesson-preserved c =
    let lessons = c.args.lessons.now in
    let missed = c.args.missed.now in
    let answered = c.args.answered.now in
    (c.in_ok-add_if_unplayed.ensures
    ∙ ap (λ (is_one : Bool). c.loop-lesson.text.items
    ++ unplayed_line is_one (slice_index_or all_lessons c.loop-lesson.lesson-index _)) c.is_unplayed.ensures)
    ∙ appended-step (λ lesson. unplayed_line (is_unplayed lessons missed answered lesson) lesson) all_lessons
    c.loop-lesson.lesson-index _ c.args.text.now.items c.loop-lesson.text.items c.loop-lesson-test.true
    c.loop-lesson.invariant

pub returns : goal.returns
returns c =
    let whole : c.loop-lesson.lesson-index ≡ 15 =
    omega (arith, c.loop-lesson-test.false, c.loop-lesson.auto.lesson-index-end) in
    c.loop-lesson.invariant
    ∙ ap (λ number. c.args.text.now.items
    ++ concat (map (λ lesson.
    unplayed_line (is_unplayed c.args.lessons.now c.args.missed.now c.args.answered.now lesson) lesson)
    (take number all_lessons))) whole
