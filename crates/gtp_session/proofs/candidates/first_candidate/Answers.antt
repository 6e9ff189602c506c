use Rattle.std.proofs.Common.{◌+◌, ◌++◌, [], ◌∷◌, sym, ap, ◌∙◌}
use Rattle.gtp_session.specs.Candidates.{points_of}
use Rattle.gtp_session.proofs.choosing.CandidatesOfBoards.{not_true, among-none, among-yes, among-no, among-first}
use Rattle.gtp_session.proofs.choosing.CandidatesOfBoards.{among-no_first}
use Rattle.gtp_session.proofs.candidates.first_candidate.Goals as goal

pub loop-point-init : goal.loop-point-init
loop-point-init c = record {
  points = c.deref-point-items.ensures.0 ∙ c.points_of-points.ensures ∙ ap points_of c.size.ensures.size;
  none = among-none c.args.game.now c.args.colour [];
}

pub loop-point-preserved : goal.loop-point-preserved
loop-point-preserved c = record {
  points = c.loop-point.invariant.points;
  none =
      among-no c.args.game.now c.args.colour c.deref-point-items.result.now c.loop-point.point-index
      c.point-item.result c.loop-point-test.true c.point-item.is
      (λ is. not_true c.if-is_candidate.false (c.is_candidate.ensures.1 is))
      ∙ c.loop-point.invariant.none;
}

pub returns-then-is_candidate : goal.returns-then-is_candidate
returns-then-is_candidate c =
    let points = c.deref-point-items.result.now in
    sym (among-first c.args.game.now c.args.colour points (c.loop-point.point-index + 1) c.point-item.result
    c.loop-point.invariant.points
    (among-yes c.args.game.now c.args.colour points c.loop-point.point-index c.point-item.result
    c.loop-point-test.true c.point-item.is (c.is_candidate.ensures.0 c.if-is_candidate.true)
    ∙ ap (λ l. l ++ c.point-item.result ∷ []) c.loop-point.invariant.none))

pub returns : goal.returns
returns c =
    sym (among-no_first c.args.game.now c.args.colour c.deref-point-items.result.now c.loop-point.point-index
    c.loop-point.invariant.points c.loop-point-test.false c.loop-point.invariant.none)
