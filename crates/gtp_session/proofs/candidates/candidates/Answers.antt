use Rattle.std.proofs.Common.{◌++◌, [], ◌∷◌, length, sym, ap, ◌∙◌, arith}
use Rattle.arrayvec.specs.ArrayVec.{array_vec_len}
use Rattle.gtp_session.specs.Candidates.{points_of}
use Rattle.gtp_session.proofs.choosing.CandidatesOfBoards.{not_true, among-none, among-yes, among-no, among-all}
use Rattle.gtp_session.proofs.candidates.candidates.Goals as goal
use Rattle.gtp_session.proofs.candidates.candidates.Goals.{then-is_candidate, else-is_candidate}

pub loop-point-init : goal.loop-point-init
loop-point-init c = record {
  points = c.deref-point-items.ensures.0 ∙ c.points_of-points.ensures ∙ ap points_of c.size.ensures.size;
  within = c.deref-point-items.ensures.1;
  found = c.new-found.ensures ∙ sym (among-none c.args.game.now c.args.colour []);
  few = omega (arith, ap length c.new-found.ensures);
}

pub loop-point-preserved : goal.loop-point-preserved
loop-point-preserved c = elim c.if-is_candidate.branch [
  | then-is_candidate w ↦ record {
    points = c.loop-point.invariant.points;
    within = c.loop-point.invariant.within;
    found =
        ap (λ v. v.items) w.found-is
        ∙ w.push.ensures.items
        ∙ ap (λ l. l ++ c.point-item.result ∷ []) c.loop-point.invariant.found
        ∙ sym (among-yes c.args.game.now c.args.colour c.deref-point-items.result.now c.loop-point.point-index
        c.point-item.result c.loop-point-test.true c.point-item.is (c.is_candidate.ensures.0 w.if-is_candidate.true));
    few = omega (arith, ap array_vec_len w.found-is);
  }
  | else-is_candidate w ↦ record {
    points = c.loop-point.invariant.points;
    within = c.loop-point.invariant.within;
    found =
        ap (λ v. v.items) w.found-is
        ∙ c.loop-point.invariant.found
        ∙ sym (among-no c.args.game.now c.args.colour c.deref-point-items.result.now c.loop-point.point-index
        c.point-item.result c.loop-point-test.true c.point-item.is
        (λ is. not_true w.if-is_candidate.false (c.is_candidate.ensures.1 is)));
    few = omega (arith, ap array_vec_len w.found-is);
  }
]

pub returns : goal.returns
returns c =
    c.loop-point.invariant.found
    ∙ among-all c.args.game.now c.args.colour c.deref-point-items.result.now c.loop-point.point-index
    c.loop-point.invariant.points c.loop-point-test.false
