use Rattle.std.proofs.Common.{◌∙◌, ap, take, drop}
use Rattle.go_base.proofs.general.Fronts.{take_prefix_len, drop_prefix_len}
use Rattle.gtp_check_judge.specs.Scores.{is_before_exponent}
use Rattle.gtp_check_judge.proofs.scores.split_exponent.Goals as goal

pub returns-clause-number : goal.returns-clause-number
returns-clause-number c =
    c.split_at.ensures.front ∙ ap (λ n. take n c.args.text.now) c.before_exponent_len.ensures.value
    ∙ take_prefix_len is_before_exponent c.args.text.now

pub returns-clause-exponent : goal.returns-clause-exponent
returns-clause-exponent c =
    c.split_at.ensures.back ∙ ap (λ n. drop n c.args.text.now) c.before_exponent_len.ensures.value
    ∙ drop_prefix_len is_before_exponent c.args.text.now
