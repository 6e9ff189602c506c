use Rattle.std.proofs.Common.{◌∙◌, ap, arith}
use Rattle.std.specs.Prelude.{unwrap_or}
use Rattle.go_base.proofs.numbers.Komis.{digits_value_few, value_of_digits}
use Rattle.gtp_check_judge.proofs.scores.number_of.Goals as goal

pub returns-clause-value : goal.returns-clause-value
returns-clause-value c =
    c.from.ensures ∙ c.unwrap_or.ensures ∙ ap (λ o. unwrap_or o 0) c.read_int.ensures.value
    ∙ value_of_digits c.args.digits.now c.requires.digits c.requires.few

pub returns-clause-limit : goal.returns-clause-limit
returns-clause-limit c =
    let value =
    c.from.ensures ∙ c.unwrap_or.ensures ∙ ap (λ o. unwrap_or o 0) c.read_int.ensures.value
    ∙ value_of_digits c.args.digits.now c.requires.digits c.requires.few in
    omega (arith, value, digits_value_few c.args.digits.now c.requires.digits c.requires.few)
