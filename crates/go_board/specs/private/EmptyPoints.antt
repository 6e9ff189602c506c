-- Places in rising order at the end of a list.
use Rattle.std.specs.Prelude.{◌≡◌, ◌⊎◌, ◌↔◌, ℕ, ◌+◌, ◌<◌, List, [], ◌∷◌, ◌++◌, Contains, length}
use Rattle.std.specs.List.{AllByRecursion}

-- each number is below all later ones
abbrev pub AreRising : List ℕ → Type 0
AreRising [] = Unit {0}
AreRising (p ∷ ps) = AllByRecursion (λ q. p < q) ps × AreRising ps

-- The list goes on with rising numbers: those that it went on with, and this one.
pub record IsInserted (had more : List ℕ) (p : ℕ) (new : List ℕ) : Type 0 where
  pub now : List ℕ
  pub new_is : new ≡ had ++ now
  pub rising : AreRising now
  pub long : length now ≡ length more + 1
  pub has : (q : ℕ) → Contains now q ↔ (Contains more q ⊎ (q ≡ p))

-- wherever what follows the first `start` numbers rises, and this one isn't among it
abbrev pub InsertsFrom : List ℕ → ℕ → ℕ → List ℕ → Type 0
InsertsFrom old start p new =
    (had more : List ℕ) → old ≡ had ++ more → length had ≡ start → AreRising more → ¬ Contains more p
    → IsInserted had more p new

-- the list went on with these places, in rising order
pub record AreInserted (had places new : List ℕ) : Type 0 where
  pub more : List ℕ
  pub new_is : new ≡ had ++ more
  pub rising : AreRising more
  pub long : length more ≡ length places
  pub has : (q : ℕ) → Contains more q ↔ Contains places q
