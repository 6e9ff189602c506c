use Rattle.std.proofs.Common.{◌≡◌, sym, ◌∙◌, ap, arith}
use Rattle.go_board.specs.Board.{at}
use Rattle.go_board.specs.private.Areas.{one_of}
use Rattle.go_board.proofs.Sums.{total, total-zero, total-more}
use Rattle.go_board.proofs.scores.OpenPoints.{stones-total}
use Rattle.go_board.proofs.board.Board.stones_of.Goals as goal

pub loop-place-init : goal.loop-place-init
loop-place-init c = record {
  few = omega arith;
  counted = sym (total-zero (λ p. one_of c.args.colour (at c.args.self.now p)));
}

pub loop-place-preserved : goal.loop-place-preserved
loop-place-preserved c =
    let one = c.one_of-count.ensures.value ∙ ap (one_of c.args.colour) c.at.ensures in
    let few_one = c.one_of-count.ensures.few in
    let few_before = c.loop-place.invariant.few in
    let so_far = c.loop-place.invariant.counted in
    let more = total-more (λ p. one_of c.args.colour (at c.args.self.now p)) c.loop-place.place in
    record {
      few = omega (arith, few_one, few_before);
      counted = omega (arith, one, so_far, more);
    }

pub returns-clause-value : goal.returns-clause-value
returns-clause-value c =
    let past = c.loop-place-test.false in
    let within = c.loop-place.auto.place-end in
    let end : c.loop-place.place ≡ 702 = omega (arith, past, within) in
    c.loop-place.invariant.counted ∙ ap (total (λ p. one_of c.args.colour (at c.args.self.now p))) end
    ∙ sym (stones-total c.args.self.now c.args.colour)

pub returns-clause-few : goal.returns-clause-few
returns-clause-few c =
    let few = c.loop-place.invariant.few in
    let within = c.loop-place.auto.place-end in
    omega (arith, few, within)
