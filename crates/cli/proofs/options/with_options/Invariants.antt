use Rattle.std.proofs.Common.{◌≡◌, map, take}
use Rattle.clap.specs.Words.{app_of}
use Rattle.cli.specs.Options.{rule_of_row, with_rules}
use Rattle.cli.proofs.options.with_options.Given as goal

-- the options of the rows so far are there
abbrev pub invariant-loop-row : goal.invariant-loop-row
invariant-loop-row l =
    app_of l.command ≡ with_rules (app_of l.initial.command) (map rule_of_row (take l.row-index l.rows))
