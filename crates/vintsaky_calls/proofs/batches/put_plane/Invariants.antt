use Rattle.std.proofs.Common.{◌≡◌, length, map, take}
use Rattle.vintsaky_calls.specs.private.Marks.{stone_mark}
use Rattle.vintsaky_calls.proofs.batches.put_plane.Given as goal

-- the values of the stones before this place are there
abbrev pub invariant-loop-place : goal.invariant-loop-place
invariant-loop-place g l =
    (length l.values ≡ length l.initial.values)
    × (take l.place l.values ≡ map (stone_mark l.zero l.one l.colour) (take l.place l.stones))
