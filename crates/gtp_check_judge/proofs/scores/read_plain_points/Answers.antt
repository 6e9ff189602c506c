use Rattle.std.proofs.Common.{sym, ◌∙◌, subst}
use Rattle.std.specs.Str.Parse.{AllDigits}
use Rattle.go_base.proofs.general.Fronts.{digits_model}
use Rattle.go_base.proofs.numbers.Komis.{front_digits_are}
use Rattle.gtp_check_judge.proofs.scores.read_plain_points.Goals as goal

pub score_of_digits-requires-clause-before : goal.score_of_digits-requires-clause-before
score_of_digits-requires-clause-before c =
    subst (AllDigits 10) (sym c.split_digits.ensures.digits) (front_digits_are c.args.text.now)

pub score_of_digits-requires-clause-after : goal.score_of_digits-requires-clause-after
score_of_digits-requires-clause-after c =
    digits_model.to c.in_ok-decimals.decimals.now (sym c.are_digits.ensures ∙ c.if-not-are_digits.false)
