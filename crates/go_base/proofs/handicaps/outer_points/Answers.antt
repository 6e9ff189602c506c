use Rattle.go_base.specs.Handicap.{handicap_points}
use Rattle.go_base.proofs.handicaps.outer_points.Goals as goal

pub returns : goal.returns
unfolding handicap_points
returns c = cc
