use Rattle.std.proofs.Common.{◌∙◌}
use Rattle.gtp_check_texts.proofs.Joining.{appended-step}
use Rattle.gtp_check_texts.proofs.texts.add_all.Goals as goal

pub loop-part-preserved : goal.loop-part-preserved
loop-part-preserved c =
    c.in_ok-extend_from_slice.ensures.items
    ∙ appended-step (λ part. part.now) c.args.parts.now c.loop-part.part-index _ c.args.text.now.items
    c.loop-part.text.items c.loop-part-test.true c.loop-part.invariant
