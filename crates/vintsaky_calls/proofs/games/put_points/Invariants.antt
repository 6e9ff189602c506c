use Rattle.std.proofs.Common.{◌≡◌, length, map, take, drop}
use Rattle.vintsaky_calls.specs.Codes.{point_code}
use Rattle.vintsaky_calls.proofs.games.put_points.Given as goal

-- the numbers of the points before this place are there, and the other numbers stay
abbrev pub invariant-loop-place : goal.invariant-loop-place
invariant-loop-place l =
    (length l.numbers ≡ length l.initial.numbers)
    × (take l.place l.numbers ≡ map point_code (take l.place l.point-items))
    × (drop l.place l.numbers ≡ drop l.place l.initial.numbers)
