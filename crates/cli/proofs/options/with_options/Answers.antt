use Rattle.clap.specs.Words.{app_of}
use Rattle.cli.proofs.CommandLine.{some_row, with_rules-step}
use Rattle.cli.proofs.options.with_options.Goals as goal

pub loop-row-preserved : goal.loop-row-preserved
loop-row-preserved c =
    with_rules-step (app_of c.args.command) c.args.rows.now c.loop-row.row-index some_row c.loop-row.command
    c.in_ok-command.command c.option.result c.loop-row-test.true c.in_ok-command.ensures c.option.ensures.local
    c.loop-row.invariant c.option.ensures.rule
