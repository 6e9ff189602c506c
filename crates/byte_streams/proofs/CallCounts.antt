-- Laws of counts.
use Rattle.std.proofs.Common.{◌≡◌, ℕ, ◌+◌, ◌-◌, min, arith}
use Rattle.byte_streams.specs.Counts.{most, raised}

pub raised-none : (count : ℕ) → raised count 0 ≡ count
raised-none count = omega arith

-- `most` is a number that no proof has to look at
min_then : (top count m n : ℕ)
    → (count + min m (top - count)) + min n (top - (count + min m (top - count))) ≡ count + min (m + n) (top - count)
min_then top count m n = omega arith

pub raised-then : (count m n : ℕ) → raised (raised count m) n ≡ raised count (m + n)
raised-then count m n = min_then most count m n
