-- Counts and lists with an end. (Own.)
use Rattle.std.specs.Prelude.{ℕ, ◌+◌, ◌-◌, ◌^◌, nat_lt, if◌then◌else◌, min, List, [], ◌∷◌, ◌++◌, length}

-- one more of a count, which ends at the greatest number of 32 bits
abbrev pub one_more : ℕ → ℕ
one_more count = min (count + 1) (2 ^ 32 - 1)

-- a list with an element more, where it has room for it
abbrev pub with_more : {A : Type 0} → ℕ → List A → A → List A
with_more room list element = if nat_lt (length list) room then list ++ element ∷ [] else list
