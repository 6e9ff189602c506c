-- Which komi every engine has to take, and at which scores are compared. (The standard's simple entities: a float is a
-- number that a 32 bit IEEE 754 float represents. Its topic komi: the engine takes a new komi, even if it is
-- ridiculous.)
use Rattle.std.specs.Prelude.{ℕ, Bool, ℤ, nat_le, unsigned_abs}

-- A float of 32 bits has 24 binary digits. So up to this number, either way, each number of half points is one.
abbrev pub most_exact : ℕ
most_exact = 16777216

-- The komi, in half points, is a float of 32 bits, and so every engine has to take it. Of one beyond, which may be no
-- float, nothing is asked: it may be taken, rounded or refused.
abbrev pub is_exact_komi : ℤ → Bool
is_exact_komi half_points = nat_le (unsigned_abs half_points) most_exact

-- ---- which are compared

-- Scores are compared at komis up to a thousand points, either way: 2,000 half points.
abbrev pub most_near : ℕ
most_near = 2000

abbrev pub is_near_komi : ℤ → Bool
is_near_komi half_points = nat_le (unsigned_abs half_points) most_near
