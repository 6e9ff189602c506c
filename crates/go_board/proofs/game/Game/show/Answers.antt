use Rattle.std.proofs.Common.{◌≡◌, List, ℕ, [], ◌∷◌, ◌++◌, length, arith, ap, ◌∙◌}
use Rattle.go_board.specs.Show.{shown_row, shown_letters, shown_captures}
use Rattle.go_board.proofs.BoardText.{rows_above, rows_above-first, rows_above-more, board_text-from_front}
use Rattle.go_board.proofs.game.Game.show.Goals as goal

pub loop-row-init : goal.loop-row-init
loop-row-init c = record {
  written = c.new-text.ensures ∙ rows_above-first c.args.self.now c.get-size.result (omega arith);
  few = omega (arith, ap length c.new-text.ensures);
}

pub loop-row-preserved : goal.loop-row-preserved
loop-row-preserved c = record {
  written =
      c.push.ensures.items
      ∙ ap (λ t. t ++ 10 ∷ [])
      (c.push_row.ensures.row ∙ ap (λ t. t ++ shown_row c.args.self.now c.loop-row.row) c.loop-row.invariant.written)
      ∙ rows_above-more c.args.self.now c.loop-row.row (omega arith) (omega arith);
  few = omega arith;
}

pub returns : goal.returns
returns c =
    let game = c.args.self.now in
    let rest = λ (rows : List ℕ) (size : ℕ). ((rows ++ shown_letters size) ++ 10 ∷ []) ++ shown_captures game in
    let size : c.get-size.result ≡ game.size = c.get-size.ensures.value ∙ c.size.ensures.size in
    c.push_captures.ensures
    ∙ ap (λ t. t ++ shown_captures game)
    (c.push-2.ensures.items ∙ ap (λ t. t ++ 10 ∷ []) c.push_letters.ensures.letters)
    ∙ ap (λ t. rest t c.get-size.result) c.loop-row.invariant.written
    ∙ ap (rest (rows_above game c.loop-row.row)) size
    ∙ board_text-from_front game c.loop-row.row (omega arith)
