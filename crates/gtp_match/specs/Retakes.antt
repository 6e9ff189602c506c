-- How often the move of each number was refused, and met by a retake. (Own.)
use Rattle.std.specs.Prelude.{◌≡◌, ℕ, ◌+◌, ◌-◌, ◌≤◌, List, [], ◌∷◌, length, take, replicate, slice_index_or, slice_set}
use Rattle.go_board.specs.Game.{most_moves}

-- the most retakes of one number in a match
abbrev pub most_retakes : ℕ
most_retakes = 3

-- no move was retaken
abbrev pub no_retakes : List ℕ
no_retakes = replicate most_moves 0

-- The retakes of the move of this number, counted from 1: 0 for a number that has none.
abbrev pub retakes_of : List ℕ → ℕ → ℕ
retakes_of retakes number = slice_index_or (0 ∷ retakes) number 0

-- one retake more of this number
abbrev pub with_retake : ℕ → List ℕ → List ℕ
with_retake number retakes = slice_set retakes (number - 1) (retakes_of retakes number + 1)

-- all numbers of a list together
abbrev pub total_of : List ℕ → ℕ
total_of [] = 0
total_of (n ∷ ns) = n + total_of ns

-- the retakes of the first numbers, of this many of them
abbrev pub retakes_within : ℕ → List ℕ → ℕ
retakes_within numbers retakes = total_of (take numbers retakes)

-- there is a place for each move of a record, and no number was retaken too often
pub record AreRetakes (retakes : List ℕ) : Type 0 where
  pub places : length retakes ≡ most_moves
  pub few : (number : ℕ) → retakes_of retakes number ≤ most_retakes
