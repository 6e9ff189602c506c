use Rattle.std.proofs.Common.{◌∙◌}
use Rattle.gtp_check_texts.specs.Summary.{spaced_size}
use Rattle.gtp_check_texts.proofs.Joining.{appended-step}
use Rattle.gtp_check_texts.proofs.summary.add_sizes.Goals as goal

pub loop-size-preserved : goal.loop-size-preserved
loop-size-preserved c =
    c.in_ok-add_size.ensures
    ∙ appended-step spaced_size c.args.sizes.now c.loop-size.size-index _ c.args.text.now.items
    c.loop-size.text.items c.loop-size-test.true c.loop-size.invariant
