use Rattle.std.proofs.Common.{ℕ, List, ◌∙◌, ap, arith, [], ◌∷◌, ◌++◌, length, ◌+◌, ◌%◌, lit<}
use Rattle.go_base.proofs.numbers.Ints.{written_one_digit, written_more_digits, written_int_room}
use Rattle.go_base.proofs.ints.+write_int.Goals as goal
use Rattle.go_base.proofs.ints.+write_int.Goals.{then-number-lt10, else-number-lt10}

pub push-requires : goal.push-requires
push-requires t c = (
  lit< tt,
  elim c.if-number-lt10.branch [
    | then-number-lt10 w ↦ omega (arith, ap length (ap (λ v. v.items) w.text-is ∙ w.new-text.ensures))
    | else-number-lt10 w ↦ omega (
      arith,
      ap length (ap (λ v. v.items) w.text-is ∙ w.write_int-text.ensures),
      written_int_room c.args.number (omega arith),
    )
  ],
)

pub returns : goal.returns
returns t c =
    let last = λ (front : List ℕ). front ++ (48 + c.args.number % 10) ∷ [] in
    c.push.ensures.items
    ∙ elim c.if-number-lt10.branch [
      | then-number-lt10 w ↦ ap last (ap (λ v. v.items) w.text-is ∙ w.new-text.ensures)
          ∙ written_one_digit c.args.number (omega (arith, w.if-number-lt10))
      | else-number-lt10 w ↦ ap last (ap (λ v. v.items) w.text-is ∙ w.write_int-text.ensures)
          ∙ written_more_digits c.args.number (omega (arith, w.if-number-lt10)) (omega arith)
    ]
