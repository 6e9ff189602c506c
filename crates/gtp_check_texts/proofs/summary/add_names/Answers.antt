use Rattle.std.proofs.Common.{◌∙◌}
use Rattle.gtp_check_texts.specs.Summary.{spaced_name}
use Rattle.gtp_check_texts.proofs.Joining.{appended-step}
use Rattle.gtp_check_texts.proofs.summary.add_names.Goals as goal

pub loop-lesson-preserved : goal.loop-lesson-preserved
loop-lesson-preserved c =
    c.in_ok-add_name.ensures
    ∙ appended-step spaced_name c.args.lessons.now c.loop-lesson.lesson-index _ c.args.text.now.items
    c.loop-lesson.text.items c.loop-lesson-test.true c.loop-lesson.invariant
