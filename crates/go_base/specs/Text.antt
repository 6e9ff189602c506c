-- Texts, read and written word by word.
use Rattle.std.specs.Prelude.{ℕ, Bool, List, [], ◌∷◌, ◌++◌, if◌then◌else◌}

-- the longest front of elements that pass a test
abbrev pub front_while : {X : Type 0} → (X → Bool) → List X → List X
front_while p [] = []
front_while p (x ∷ xs) = if p x then x ∷ front_while p xs else []

-- what follows it
abbrev pub skip_while : {X : Type 0} → (X → Bool) → List X → List X
skip_while p [] = []
skip_while p (x ∷ xs) = if p x then skip_while p xs else x ∷ xs

-- the text with a word more: after a separator, where the text isn't empty
abbrev pub joined : ℕ → List ℕ → List ℕ → List ℕ
joined separator [] word = word
joined separator (byte ∷ text) word = (byte ∷ text) ++ (separator ∷ word)
