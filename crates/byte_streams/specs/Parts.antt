-- What a writer took of a text. (Own.)
use Rattle.std.specs.Prelude.{◌≡◌, ℕ, List, ◌++◌, Option}
use Rattle.std.specs.Io.KnownBytes.{Appends}

-- the writer took the beginning of a text
pub record TakesPart (text : List ℕ) (held holds : Option (List ℕ)) : Type 0 where
  pub part : List ℕ
  pub left : List ℕ
  pub cut : text ≡ part ++ left
  pub taken : Appends held holds part
