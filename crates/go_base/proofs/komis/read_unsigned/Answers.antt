use Rattle.std.proofs.Common.{length, ◌∙◌, ap, arith}
use Rattle.std.specs.Prelude.{unwrap_or}
use Rattle.go_base.specs.Int.{int_of}
use Rattle.go_base.specs.Komi.{decimals_of}
use Rattle.go_base.proofs.numbers.Komis.{unsigned_read, unsigned_read_limit}
use Rattle.go_base.proofs.komis.read_unsigned.Goals as goal

pub returns-clause-value : goal.returns-clause-value
returns-clause-value c =
    let few = c.are_few.ensures.0 c.if-not-are_few.false in
    let front = ap length c.split_digits.ensures.digits in
    unsigned_read c.args.text.now c.in_ok-decimals.decimals.now c.unwrap_or-points.result c.in_ok-half.half
    (c.in_ok-decimals.ensures ∙ ap decimals_of c.split_digits.ensures.rest)
    c.in_ok-half.ensures.value
    (omega (arith, front, few.0))
    (omega (arith, front, few.1))
    few.2
    (c.unwrap_or-points.ensures
    ∙ ap (λ o. unwrap_or o 0) (c.read_int.ensures.value ∙ ap int_of c.split_digits.ensures.digits))

pub returns-clause-limit : goal.returns-clause-limit
returns-clause-limit c =
    let few = c.are_few.ensures.0 c.if-not-are_few.false in
    unsigned_read_limit c.args.text.now c.unwrap_or-points.result c.in_ok-half.half c.in_ok-half.ensures.limit
    (omega (arith, ap length c.split_digits.ensures.digits, few.1))
    (c.unwrap_or-points.ensures
    ∙ ap (λ o. unwrap_or o 0) (c.read_int.ensures.value ∙ ap int_of c.split_digits.ensures.digits))
