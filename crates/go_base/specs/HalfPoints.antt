-- The written form of half points, for a komi and for a score, which goes past the limits of a komi. (Own; the
-- standard's topics komi and final_score have such numbers as floats.)
use Rattle.std.specs.Prelude.{ℕ, zero, suc, ◌+◌, ◌/◌, ◌%◌, ◌==◌, ℤ, pos, negsuc, List, [], ◌++◌, codes, if◌then◌else◌}
use Rattle.go_base.specs.Int.{written_int}

-- a number of half points as points: the whole part without leading zeros, and `.5` where there is a half
abbrev pub written_points : ℕ → List ℕ
written_points half_points = written_int (half_points / 2) ++ (if half_points % 2 == 1 then codes ".5" else [])

-- any whole number of half points as points: as above, with `-` before it where it is negative
abbrev pub written_half_points : ℤ → List ℕ
written_half_points (pos n) = written_points n
written_half_points (negsuc n) = codes "-" ++ written_points (n + 1)

-- ---- a score, positive where Black leads

-- the colour that leads, before its points; nothing where the score is even
abbrev pub leader : ℤ → List ℕ
leader (pos zero) = []
leader (pos (suc n)) = codes "B+"
leader (negsuc n) = codes "W+"

-- how many half points it leads by
abbrev pub lead : ℤ → ℕ
lead (pos n) = n
lead (negsuc n) = n + 1

-- `B+` or `W+` and the points, or `0` (the standard, tournament commands: final_score)
abbrev pub score_text : ℤ → List ℕ
score_text half_points = leader half_points ++ written_points (lead half_points)
