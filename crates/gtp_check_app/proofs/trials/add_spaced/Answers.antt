use Rattle.std.proofs.Common.{◌++◌, refl}
use Rattle.gtp_check_app.specs.Trials.{most_between, spaced}
use Rattle.gtp_check_app.proofs.Spacing.{all_spaced, spaced_more}
use Rattle.gtp_check_app.proofs.trials.add_spaced.Goals as goal

pub loop-command-init : goal.loop-command-init
loop-command-init c = refl

pub loop-command-preserved : goal.loop-command-preserved
loop-command-preserved c =
    spaced_more c.args.commands.now c.loop-command.command-index c.loop-command.left c.command-item.result
    (c.args.all.now.items ++ spaced most_between c.args.commands.now) c.loop-command.all.items _ _
    c.loop-command-test.true c.command-item.is c.in_ok-add_with_names.ensures c.left_after-left.ensures c.loop-command.invariant

pub returns : goal.returns
returns c =
    all_spaced c.args.commands.now c.loop-command.command-index c.loop-command.left
    (c.args.all.now.items ++ spaced most_between c.args.commands.now) c.loop-command.all.items
    c.loop-command-test.false c.loop-command.invariant
