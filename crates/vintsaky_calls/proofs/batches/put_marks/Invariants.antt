use Rattle.std.proofs.Common.{◌≡◌, length, map, take}
use Rattle.vintsaky_calls.specs.private.Marks.{bool_mark}
use Rattle.vintsaky_calls.proofs.batches.put_marks.Given as goal

-- the values of the marks before this place are there
abbrev pub invariant-loop-place : goal.invariant-loop-place
invariant-loop-place g l =
    (length l.values ≡ length l.initial.values)
    × (take l.place l.values ≡ map (bool_mark l.zero l.one) (take l.place l.marks))
