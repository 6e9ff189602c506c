use Rattle.std.proofs.Common.{ap, arith}
use Rattle.std.specs.Prelude.{not}
use Rattle.gtp_check_app.specs.Plans.{is_chosen}
use Rattle.gtp_check_app.proofs.LessonLoops.{AreKept-more, AreKept-all}
use Rattle.gtp_check_app.proofs.plan.left_out.Goals as goal

pub add_if-requires : goal.add_if-requires
add_if-requires c = omega (arith, c.loop-lesson.invariant.few, c.loop-lesson-test.true)

pub loop-lesson-preserved : goal.loop-lesson-preserved
loop-lesson-preserved c =
    AreKept-more (λ lesson. not (is_chosen c.args.options.now lesson)) c.loop-lesson.lesson-index _
    c.loop-lesson.lessons c.add_if.new.lessons _
    c.loop-lesson-test.true c.loop-lesson.invariant (ap not c.is_chosen.ensures) c.add_if.ensures.items
    c.add_if.ensures.few

pub returns : goal.returns
returns c = AreKept-all (λ lesson. not (is_chosen c.args.options.now lesson)) c.loop-lesson.lesson-index
    c.loop-lesson.lessons c.loop-lesson.invariant
    (omega (arith, c.loop-lesson-test.false, c.loop-lesson.auto.lesson-index-end))
