use Rattle.std.proofs.Common.{◌≡◌, length, map, take, drop}
use Rattle.vintsaky_calls.specs.Matches.{bool_code}
use Rattle.vintsaky_calls.proofs.searching.put_marks.Given as goal

-- the bytes of the marks before this place are there, and the other bytes stay
abbrev pub invariant-loop-place : goal.invariant-loop-place
invariant-loop-place l =
    (length l.bytes ≡ length l.initial.bytes)
    × (take l.place l.bytes ≡ map bool_code (take l.place l.mark-items))
    × (drop l.place l.bytes ≡ drop l.place l.initial.bytes)
