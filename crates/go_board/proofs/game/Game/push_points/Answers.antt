use Rattle.std.proofs.Common.{◌+◌, ◌++◌, [], ◌∷◌, arith, ap, ◌∙◌}
use Rattle.go_board.proofs.BoardText.{points_before-first, points_before-more, points_before-all}
use Rattle.go_board.proofs.game.Game.push_points.Goals as goal

pub loop-column-init : goal.loop-column-init
loop-column-init c =
    record { written = points_before-first c.args.self.now c.args.row c.args.text.now.items; len = omega arith }

pub loop-column-preserved : goal.loop-column-preserved
loop-column-preserved c = record {
  written =
      c.push-in-loop-column.ensures.items
      ∙ ap (λ t. t ++ 32 ∷ [])
      (c.push.ensures.items ∙ ap (λ t. t ++ c.mark.result ∷ []) c.loop-column.invariant.written)
      ∙ points_before-more c.args.self.now c.args.row c.loop-column.column c.mark.result c.stone_on.result
      c.args.text.now.items (omega arith) c.stone_on.ensures c.mark.ensures;
  len = omega arith;
}

pub returns-2-clause-points : goal.returns-2-clause-points
returns-2-clause-points c =
    c.push-in-loop-column.ensures.items
    ∙ ap (λ t. t ++ 32 ∷ []) (c.push.ensures.items ∙ ap (λ t. t ++ c.mark.result ∷ []) c.loop-column.invariant.written)
    ∙ points_before-more c.args.self.now c.args.row c.loop-column.column c.mark.result c.stone_on.result
    c.args.text.now.items (omega arith) c.stone_on.ensures c.mark.ensures
    ∙ points_before-all c.args.self.now c.args.row (c.loop-column.column + 1) c.args.text.now.items (omega arith)
