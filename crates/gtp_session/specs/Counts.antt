-- How much a conversation reads. (Own.)
use Rattle.std.specs.Prelude.{ℕ}

-- the reads that a conversation makes at most
abbrev pub most_reads : ℕ
most_reads = 1000000000
