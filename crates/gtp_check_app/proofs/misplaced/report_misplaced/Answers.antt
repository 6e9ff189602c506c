use Rattle.std.proofs.Common.{◌∙◌, ℕ, List, subst}
use Rattle.byte_streams.specs.Writing.{WritesOrBreaks}
use Rattle.gtp_check_app.specs.Misplaced.{refused, reported}
use Rattle.gtp_check_app.proofs.misplaced.report_misplaced.Goals as goal

pub returns-in-Ok : goal.returns-in-Ok
returns-in-Ok g c =
    reported (subst (λ (text : List ℕ). WritesOrBreaks g.E.WriteOnce text c.args.errors.now c.write_or_break.new.writer)
    (c.as_slice.ensures.value ∙ c.in-Ok.ensures) c.write_or_break.ensures)

pub returns-in-Err : goal.returns-in-Err
returns-in-Err g c = rw c.report.ensures.status (refused c.report.ensures.written)
