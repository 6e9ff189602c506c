use Rattle.std.proofs.Common.{ℕ, ◌+◌, List, [], ◌∷◌, ◌++◌, sym, ◌∙◌, ap, subst}
use Rattle.go_board.specs.Candidates.{IsCandidate}
use Rattle.go_board.specs.private.PointList.{AreListedBefore}
use Rattle.go_board.proofs.records.ChainLists.{candidate-on}
use Rattle.go_board.proofs.records.PointLists.{listed-one, listed-skip}
use Rattle.go_board.proofs.game.Game.candidates.Goals as goal
use Rattle.go_board.proofs.game.Game.candidates.Goals.{then-is_candidate_at, else-is_candidate_at}

pub loop-place-preserved : goal.loop-place-preserved
loop-place-preserved c =
    let is = c.is_candidate_at.ensures in
    elim c.if-is_candidate_at.branch [
      | then-is_candidate_at w ↦
          listed-one c.args.self.now.size (λ p. IsCandidate c.args.self.now c.args.colour p) c.loop-place.place
          c.loop-place.points.items c.if-is_candidate_at.points.items
          (candidate-on c.args.self.now c.args.colour c.size.ensures.game) c.loop-place.invariant
          (is.0 w.if-is_candidate_at.true)
          (ap (λ v. v.items) w.points-is ∙ w.push.ensures.items
          ∙ ap (λ (q : ℕ). c.loop-place.points.items ++ q ∷ []) w.point_at.ensures)
      | else-is_candidate_at w ↦
          subst (λ (xs : List ℕ). AreListedBefore (λ p. IsCandidate c.args.self.now c.args.colour p)
          (c.loop-place.place + 1) xs) (sym (ap (λ v. v.items) w.points-is))
          (listed-skip (λ p. IsCandidate c.args.self.now c.args.colour p) c.loop-place.place
          c.loop-place.points.items c.loop-place.invariant
          (λ h. let yes_one = is.1 h in let no_one = w.if-is_candidate_at.false in cc))
    ]
