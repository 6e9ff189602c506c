use Rattle.std.proofs.Common.{◌≡◌, ◌∙◌, ap, codes, map, refl, rules, List}
use Rattle.std.proofs.lemmas.Result.{IfOk-weaker}
use Rattle.clap.specs.Words.{App, Rule, app_of}
use Rattle.cli.specs.Options.{program, rule_of_row, with_rules}
use Rattle.twogtp_app.specs.Options.{options}
use Rattle.twogtp_app.proofs.options.command.Goals as goal

pub returns : goal.returns
returns c =
    let named : app_of c.in_ok-program.program ≡ program (codes "twogtp") = search rules in
    let are : map rule_of_row c.as_slice.result.now ≡ options = rw c.as_slice.ensures refl in
    IfOk-weaker c.with_options.result _ _
    (λ with made. made
    ∙ (ap (λ (app : App). with_rules app (map rule_of_row c.as_slice.result.now)) named
    ∙ ap (λ (rules : List Rule). with_rules (program (codes "twogtp")) rules) are))
    c.with_options.ensures
