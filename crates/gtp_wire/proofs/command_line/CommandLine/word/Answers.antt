use Rattle.std.proofs.Common.{◌+◌, ◌<◌, length, ap, ◌∙◌, arith, rules, ◌^◌, inl, inr}
use Rattle.std.proofs.lemmas.Bool.{cases_lt}
use Rattle.std.specs.Prelude.{slice_get}
use Rattle.std.specs.List.{slice_split}
use Rattle.gtp_wire.specs.Bytes.{is_space}
use Rattle.gtp_wire.proofs.line_reading.NumberedWords.{word_without_id, word_with_id, word_past}
use Rattle.gtp_wire.proofs.command_line.CommandLine.word.Goals as goal

pub returns-then-is_none : goal.returns-then-is_none
returns-then-is_none c =
    rw (← c.self.view_is) (c.part.ensures
    ∙ ap (λ t. slice_get (slice_split is_space t) c.args.number) c.deref.ensures.0
    ∙ word_without_id c.self.inside.id c.self.inside.text.items c.args.number c.self.invariant.joined
    c.self.invariant.some (grind rules))

pub returns-in_err-checked_add : goal.returns-in_err-checked_add
returns-in_err-checked_add c =
    let small : length c.self.inside.text.items < 2 ^ 64 = rw c.deref-2.ensures.0 at c.deref-2.type_inv.0 in
    rw (← c.self.view_is, c.from_residual.ensures)
    (word_past c.self.inside.id c.self.inside.text.items c.args.number c.self.invariant.joined
    c.self.invariant.some (grind rules)
    (elim (cases_lt (c.args.number + 1) 18446744073709551616)
    [ inl h ↦ absurd (c.in_err-checked_add.ensures h) | inr h ↦ omega arith ]))

pub returns : goal.returns
returns c =
    rw (← c.self.view_is) (c.part-2.ensures
    ∙ ap (λ t. slice_get (slice_split is_space t) c.in_ok-checked_add.field-0) c.deref-2.ensures.0
    ∙ word_with_id c.self.inside.id c.self.inside.text.items c.args.number c.in_ok-checked_add.field-0
    c.self.invariant.joined c.self.invariant.some (grind rules) c.in_ok-checked_add.ensures.1)
