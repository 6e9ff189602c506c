use Rattle.std.proofs.Common.{sym, subst, refl}
use Rattle.go_base.proofs.board_points.HandicapPoints.{handicap_sound, IsSound}
use Rattle.go_base.proofs.handicaps.handicap.Goals as goal

pub returns-clause-distinct : goal.returns-clause-distinct
returns-clause-distinct c =
    (subst (IsSound c.args.size) (sym c.stone_points.ensures)
    (handicap_sound c.args.size c.args.stones c.allows.ensures.limits
    (c.if-not-allows.ensures.allowed.0 refl))).distinct

pub returns-clause-on_board : goal.returns-clause-on_board
returns-clause-on_board c =
    (subst (IsSound c.args.size) (sym c.stone_points.ensures)
    (handicap_sound c.args.size c.args.stones c.allows.ensures.limits
    (c.if-not-allows.ensures.allowed.0 refl))).on_board
