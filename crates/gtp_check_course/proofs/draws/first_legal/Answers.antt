use Rattle.std.proofs.Common.{◌*◌, ap, ◌∙◌, arith}
use Rattle.gtp_check_course.proofs.Candidates.{none_on_board}
use Rattle.gtp_check_course.proofs.draws.first_legal.Goals as goal

pub returns-clause-passes_last : goal.returns-clause-passes_last
returns-clause-passes_last c =
    let points = ap (λ n. n * n) (c.get-size.ensures.value ∙ c.size.ensures.size) in
    λ _. none_on_board c.args.game.now c.args.colour (omega (arith, c.size.ensures.size, c.get-size.ensures.limits))
    (λ k below. c.loop-number.invariant k (omega (arith, points)))
