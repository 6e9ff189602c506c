use Rattle.std.proofs.Common.{◌≡◌, ◌+◌, ◌*◌, ap, sym, ◌∙◌, subst, below_more, arith, rules}
use Rattle.go_board.specs.Game.{IsLegal}
use Rattle.gtp_check_course.specs.Draws.{past_words}
use Rattle.gtp_check_course.specs.Questions.{IsDrawn, drawn_point}
use Rattle.gtp_check_course.proofs.Candidates.{crossing_at, drawn_along, first_after_tries, first_of_tries}
use Rattle.gtp_check_course.proofs.Words.{past_along, past_no_words}
use Rattle.gtp_check_course.proofs.draws.legal_vertex.Goals as goal

pub loop-try-init : goal.loop-try-init
loop-try-init c = record {
  past = sym (past_no_words c.args.draws.now);
  before = λ k below. absurd (omega arith);
}

pub returns-then-legal : goal.returns-then-legal
returns-then-legal c =
    let game = c.args.game.now in
    let colour = c.args.colour in
    let draws = c.args.draws.now in
    let number = c.loop-try._try in
    let size_is = c.get-size.ensures.value ∙ c.size.ensures.size in
    let column = c.draw-column in
    let row = c.draw-row in
    let drawn = drawn_along draws c.loop-try.draws column.new.draws (2 * number) c.get-size.result _ _
    c.loop-try.invariant.past column.ensures.drawn column.ensures.rest row.ensures.drawn
    ∙ ap (drawn_point draws (2 * number)) size_is in
    let legal : IsLegal game colour c.crossing.result = search rules in
    let first = first_of_tries game colour draws number (omega arith) c.loop-try.invariant.before
    (subst (IsLegal game colour) (c.crossing.ensures ∙ drawn) legal) in
    let at = crossing_at (column.result + 1) (row.result + 1) (omega arith)
    (omega (arith, column.ensures.below, c.get-size.ensures.limits)) (omega arith)
    (omega (arith, row.ensures.below, c.get-size.ensures.limits)) in
    subst (IsDrawn game colour draws) (sym (c.crossing-then-legal.ensures ∙ drawn)) (record {
      first = first;
      passes_last = λ is_pass. let never : ⊥ = cc (is_pass, drawn, at) in absurd never;
    })

pub loop-try-preserved : goal.loop-try-preserved
loop-try-preserved c =
    let game = c.args.game.now in
    let colour = c.args.colour in
    let draws = c.args.draws.now in
    let number = c.loop-try._try in
    let size_is = c.get-size.ensures.value ∙ c.size.ensures.size in
    let column = c.draw-column in
    let row = c.draw-row in
    let drawn = drawn_along draws c.loop-try.draws column.new.draws (2 * number) c.get-size.result _ _
    c.loop-try.invariant.past column.ensures.drawn column.ensures.rest row.ensures.drawn
    ∙ ap (drawn_point draws (2 * number)) size_is in
    let one = past_along (2 * number) draws c.loop-try.draws column.new.draws c.loop-try.invariant.past
    column.ensures.rest in
    let both = past_along (2 * number + 1) draws column.new.draws row.new.draws one row.ensures.rest in
    let next : 2 * number + 1 + 1 ≡ 2 * (number + 1) = omega arith in
    let illegal : ¬ IsLegal game colour c.crossing.result =
    λ is_legal. grind (arith, c.legal.ensures.legal.1 is_legal) in
    record {
      past = both ∙ ap (λ n. past_words n draws) next;
      before = below_more _ _ c.loop-try.invariant.before
          (λ is_legal. illegal (subst (IsLegal game colour) (sym (c.crossing.ensures ∙ drawn)) is_legal));
    }

pub returns : goal.returns
returns c = record {
  first = first_after_tries c.args.game.now c.args.colour c.args.draws.now _
      (λ k below. c.loop-try.invariant.before k (omega arith)) c.first_legal.ensures.first;
  passes_last = c.first_legal.ensures.passes_last;
}
