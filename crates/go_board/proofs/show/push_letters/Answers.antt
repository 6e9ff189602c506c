use Rattle.std.proofs.Common.{◌+◌, [], ◌∷◌, ◌++◌, arith, ap, ◌∙◌}
use Rattle.go_base.specs.Vertex.{letter_of}
use Rattle.go_board.proofs.BoardText.{letters_before-first, letters_before-more, letters_before-all}
use Rattle.go_board.proofs.show.push_letters.Goals as goal

pub loop-column-init : goal.loop-column-init
loop-column-init c = record {
  few = omega arith;
  written = c.push.ensures.items ∙ letters_before-first c.args.text.now.items;
  len = omega arith;
}

pub loop-column-preserved : goal.loop-column-preserved
loop-column-preserved c = record {
  few = omega arith;
  written =
      c.push_letter.ensures.letter
      ∙ ap (λ t. t ++ letter_of c.loop-column.column ∷ [])
      (c.push-in-loop-column.ensures.items ∙ ap (λ t. t ++ 32 ∷ []) c.loop-column.invariant.written)
      ∙ letters_before-more c.loop-column.column c.args.text.now.items (omega arith);
  len = omega arith;
}

pub returns-clause-letters : goal.returns-clause-letters
returns-clause-letters c =
    c.loop-column.invariant.written
    ∙ letters_before-all c.args.size c.loop-column.column c.args.text.now.items (omega arith)

pub returns-2-clause-letters : goal.returns-2-clause-letters
returns-2-clause-letters c =
    c.push_letter.ensures.letter
    ∙ ap (λ t. t ++ letter_of c.loop-column.column ∷ [])
    (c.push-in-loop-column.ensures.items ∙ ap (λ t. t ++ 32 ∷ []) c.loop-column.invariant.written)
    ∙ letters_before-more c.loop-column.column c.args.text.now.items (omega arith)
    ∙ letters_before-all c.args.size (c.loop-column.column + 1) c.args.text.now.items (omega arith)
