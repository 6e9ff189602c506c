use Rattle.std.proofs.Common.{◌≡◌, length, replicate, take}
use Rattle.vintsaky_calls.proofs.batches.put_zeros.Given as goal

-- the values before this place are zeros
abbrev pub invariant-loop-value : goal.invariant-loop-value
invariant-loop-value g l =
    (length l.values ≡ length l.initial.values) × (take l.value-index l.values ≡ replicate l.value-index l.zero)
