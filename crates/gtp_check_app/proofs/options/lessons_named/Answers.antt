use Rattle.std.proofs.Common.{arith}
use Rattle.std.specs.Prelude.{map}
use Rattle.gtp_check_app.specs.Options.{is_named}
use Rattle.gtp_check_app.proofs.LessonLoops.{AreKept-more, AreKept-all}
use Rattle.gtp_check_app.proofs.options.lessons_named.Goals as goal

pub add_if-requires : goal.add_if-requires
add_if-requires c = omega (arith, c.loop-lesson.invariant.few, c.loop-lesson-test.true)

pub loop-lesson-preserved : goal.loop-lesson-preserved
loop-lesson-preserved c =
    AreKept-more (is_named (map (λ name. name.now) c.args.names.now)) c.loop-lesson.lesson-index _
    c.loop-lesson.lessons c.add_if.new.lessons _
    c.loop-lesson-test.true c.loop-lesson.invariant c.is_named.ensures c.add_if.ensures.items
    c.add_if.ensures.few

pub returns : goal.returns
returns c = AreKept-all (is_named (map (λ name. name.now) c.args.names.now)) c.loop-lesson.lesson-index
    c.loop-lesson.lessons c.loop-lesson.invariant
    (omega (arith, c.loop-lesson-test.false, c.loop-lesson.auto.lesson-index-end))
