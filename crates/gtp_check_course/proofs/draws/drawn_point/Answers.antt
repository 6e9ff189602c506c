use Rattle.std.proofs.Common.{◌∙◌, sym}
use Rattle.gtp_check_course.proofs.Candidates.{drawn_along}
use Rattle.gtp_check_course.proofs.Words.{past_along, past_no_words}
use Rattle.gtp_check_course.proofs.draws.drawn_point.Goals as goal

pub returns-clause-drawn : goal.returns-clause-drawn
returns-clause-drawn c =
    let first = c.draw-column.ensures in
    let second = c.draw-row.ensures in
    c.crossing.ensures
    ∙ drawn_along c.args.draws.now c.args.draws.now c.draw-column.new.draws 0 c.args.size _ _
    (sym (past_no_words c.args.draws.now)) first.drawn first.rest second.drawn

pub returns-clause-rest : goal.returns-clause-rest
returns-clause-rest c =
    past_along 1 c.args.draws.now c.draw-column.new.draws c.draw-row.new.draws c.draw-column.ensures.rest
    c.draw-row.ensures.rest
