use Rattle.std.proofs.Common.{ℕ, ◌-◌, ◌++◌, List, [], ◌∷◌, take, ◌∙◌, refl, ap}
use Rattle.go_base.specs.Handicap.{handicap_points}
use Rattle.go_base.proofs.board_points.HandicapPoints.{handicap_bounds, points_with_centre, points_without_centre}
use Rattle.go_base.proofs.handicaps.stone_points.Goals as goal

pub returns-then-has_centre : goal.returns-then-has_centre
returns-then-has_centre c =
    let allowed = handicap_bounds c.args.size c.args.stones c.requires in
    let odd = c.if-has_centre.ensures.0 refl in
    c.push.ensures.items
    ∙ ap (λ (points : List ℕ). points ++ c.centre.result ∷ []) c.first_points-points.ensures
    ∙ ap (λ (middle : ℕ). take (c.args.stones - 1) (handicap_points c.args.size 8) ++ middle ∷ []) c.centre.ensures
    ∙ points_with_centre c.args.size c.args.stones odd.0 allowed.most odd.1

pub returns-else-has_centre : goal.returns-else-has_centre
returns-else-has_centre c =
    let allowed = handicap_bounds c.args.size c.args.stones c.requires in
    c.first_points.ensures
    ∙ points_without_centre c.args.size c.args.stones allowed.least allowed.most
    (λ least odd. absurd (let e = c.if-has_centre.ensures.1 (least, odd) in cc))
