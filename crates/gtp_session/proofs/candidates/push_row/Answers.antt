use Rattle.std.proofs.Common.{◌+◌, ◌++◌, [], ◌∷◌, arith, ap, ◌∙◌}
use Rattle.go_base.specs.Point.{point}
use Rattle.gtp_session.proofs.choosing.CandidatesOfBoards.{points_before-first, points_before-more, points_before-all}
use Rattle.gtp_session.proofs.candidates.push_row.Goals as goal

pub loop-column-init : goal.loop-column-init
loop-column-init c = record { written = points_before-first c.args.row c.args.points.now.items; len = omega arith }

pub loop-column-preserved : goal.loop-column-preserved
loop-column-preserved c = record {
  written =
      c.push_point.ensures.point
      ∙ ap (λ l. l ++ point c.loop-column.column c.args.row ∷ []) c.loop-column.invariant.written
      ∙ points_before-more c.args.row c.loop-column.column c.args.points.now.items (omega arith);
  len = omega arith;
}

pub returns-2-clause-row : goal.returns-2-clause-row
returns-2-clause-row c =
    c.push_point.ensures.point
    ∙ ap (λ l. l ++ point c.loop-column.column c.args.row ∷ []) c.loop-column.invariant.written
    ∙ points_before-more c.args.row c.loop-column.column c.args.points.now.items (omega arith)
    ∙ points_before-all c.args.row c.args.size (c.loop-column.column + 1) c.args.points.now.items (omega arith)
