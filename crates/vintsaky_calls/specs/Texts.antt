-- Texts that a call writes into a buffer of its caller.
use Rattle.std.specs.Prelude.{◌≡◌, ℕ, ◌<◌, ◌≤◌, ◌+◌, List, ◌∷◌, ◌++◌, length, drop}

-- The buffer begins with the text and a NUL where it has room for both, and its other bytes stay. Else it stays.
pub record Puts (text old new : List ℕ) : Type 0 where
  pub written : length text < length old → new ≡ text ++ (0 ∷ drop (length text + 1) old)
  pub kept : length old ≤ length text → new ≡ old

-- The text is put into the buffer, and this is how many bytes it has, also where there was no room.
pub record Writes (text old new : List ℕ) (count : ℕ) : Type 0 where
  pub count_is : count ≡ length text
  pub puts : Puts text old new
