use Rattle.std.proofs.Common.{◌+◌, arith, sym, get_or, ◌∙◌}
use Rattle.std.proofs.lemmas.Bool.Decides.{nat_tests}
use Rattle.go_base.proofs.numbers.Ints.{int_of_spelled, int_of_unspelled, other_byte_spells_none, large_spells_none}
use Rattle.go_base.proofs.numbers.Ints.{next_digit, digit_bounds, not_digit_bounds, whole_spelled}
use Rattle.go_base.proofs.ints.read_int.Goals as goal

pub returns-then-not-is_ascii_digit-clause-unread : goal.returns-then-not-is_ascii_digit-clause-unread
returns-then-not-is_ascii_digit-clause-unread c n spelled =
    other_byte_spells_none c.args.text.now c.loop-byte.byte-index n (omega arith)
    (not_digit_bounds _ (sym c.is_ascii_digit.ensures.value ∙ c.if-not-is_ascii_digit.true)) spelled

pub returns-then-not-is_ascii_digit-clause-value : goal.returns-then-not-is_ascii_digit-clause-value
returns-then-not-is_ascii_digit-clause-value c = int_of_unspelled _ (returns-then-not-is_ascii_digit-clause-unread c)

pub returns-then-value-digit-clause-unread : goal.returns-then-value-digit-clause-unread
returns-then-value-digit-clause-unread c n spelled =
    let digit =
    digit_bounds (get_or c.args.text.now c.loop-byte.byte-index 0)
    (sym c.is_ascii_digit.ensures.value ∙ c.if-not-is_ascii_digit.false) in
    let step =
    next_digit c.args.text.now c.loop-byte.byte-index c.loop-byte.value
    (omega arith) c.loop-byte.invariant.digits c.loop-byte.invariant.value digit.0 digit.1 in
    large_spells_none c.args.text.now (c.loop-byte.byte-index + 1) n (omega (arith, step.1)) spelled

pub returns-then-value-digit-clause-value : goal.returns-then-value-digit-clause-value
returns-then-value-digit-clause-value c = int_of_unspelled _ (returns-then-value-digit-clause-unread c)

pub loop-byte-preserved : goal.loop-byte-preserved
loop-byte-preserved c =
    let digit =
    digit_bounds (get_or c.args.text.now c.loop-byte.byte-index 0)
    (sym c.is_ascii_digit.ensures.value ∙ c.if-not-is_ascii_digit.false) in
    let step =
    next_digit c.args.text.now c.loop-byte.byte-index c.loop-byte.value
    (omega arith) c.loop-byte.invariant.digits c.loop-byte.invariant.value digit.0 digit.1 in
    record { digits = step.0; value = omega (arith, step.1); limit = omega arith }

pub returns-clause-value : goal.returns-clause-value
returns-clause-value c =
    sym (int_of_spelled c.loop-byte.value c.args.text.now
    (whole_spelled c.args.text.now c.loop-byte.byte-index c.loop-byte.value (grind (arith, nat_tests)) (omega arith)
    c.loop-byte.invariant.digits c.loop-byte.invariant.value c.loop-byte.invariant.limit))
