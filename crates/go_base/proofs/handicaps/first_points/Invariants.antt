use Rattle.std.proofs.Common.{◌≡◌, take}
use Rattle.go_base.proofs.handicaps.first_points.Given as goal

-- the points so far
abbrev pub invariant-loop-point : goal.invariant-loop-point
invariant-loop-point l = l.points.items ≡ take l.point-index l.point-items
