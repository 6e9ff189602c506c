use Rattle.std.proofs.Common.{◌+◌, ◌++◌, length, arith, ap, ◌∙◌}
use Rattle.gtp_session.specs.Candidates.{row_points}
use Rattle.gtp_session.proofs.choosing.CandidatesOfBoards.{rows_before-first, rows_before-more, rows_before-all}
use Rattle.gtp_session.proofs.candidates.points_of.Goals as goal

pub loop-row-init : goal.loop-row-init
loop-row-init c = record {
  written = c.new-points.ensures ∙ rows_before-first c.args.size;
  few = omega (arith, ap length c.new-points.ensures);
}

pub loop-row-preserved : goal.loop-row-preserved
loop-row-preserved c = record {
  written =
      c.push_row.ensures.row
      ∙ ap (λ l. l ++ row_points c.args.size c.loop-row.row) c.loop-row.invariant.written
      ∙ rows_before-more c.args.size c.loop-row.row (omega arith);
  few = omega arith;
}

pub returns-2 : goal.returns-2
returns-2 c =
    c.push_row.ensures.row
    ∙ ap (λ l. l ++ row_points c.args.size c.loop-row.row) c.loop-row.invariant.written
    ∙ rows_before-more c.args.size c.loop-row.row (omega arith)
    ∙ rows_before-all c.args.size (c.loop-row.row + 1) (omega arith)
