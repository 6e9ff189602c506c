use Rattle.std.proofs.Common.{◌≡◌, length, map, take, drop}
use Rattle.vintsaky_calls.specs.Games.{stone_code}
use Rattle.vintsaky_calls.proofs.searching.put_stones.Given as goal

-- the bytes of the stones before this place are there, and the other bytes stay
abbrev pub invariant-loop-place : goal.invariant-loop-place
invariant-loop-place l =
    (length l.bytes ≡ length l.initial.bytes)
    × (take l.place l.bytes ≡ map stone_code (take l.place l.stone-items))
    × (drop l.place l.bytes ≡ drop l.place l.initial.bytes)
