-- Sizes of a board. The standard leaves it to the engine which sizes it accepts; that they are 1 to 25 is own: a vertex has
-- 25 letters for its column. (The standard's topics: boardsize; the entity vertex.)
use Rattle.std.specs.Prelude.{ℕ, ◌≤◌}

-- the greatest size of a board
abbrev pub most_size : ℕ
most_size = 25

-- the number is a size of a board
pub record IsSize (size : ℕ) : Type 0 where
  pub least : 1 ≤ size
  pub most : size ≤ most_size
