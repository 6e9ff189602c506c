-- Words of the protocol whose case is ignored.
use Rattle.std.specs.Prelude.{◌≡◌, ℕ, Bool, List}
use Rattle.std.specs.Str.{str_to_ascii_lowercase, bytes_eq}

-- the text is the word, whatever the case of its letters; the word is given in small letters
abbrev pub IsWord : List ℕ → List ℕ → Type 0
IsWord word text = str_to_ascii_lowercase text ≡ word

-- whether it is
abbrev pub is_word : List ℕ → List ℕ → Bool
is_word word text = bytes_eq (str_to_ascii_lowercase text) word
