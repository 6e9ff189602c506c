-- What both ends do to single bytes before they parse. (The standard, preprocessing.)
use Rattle.std.specs.Prelude.{ℕ, Bool, List, [], ◌∷◌, ◌||◌, ◌==◌, not, if◌then◌else◌}
use Rattle.std.specs.Char.{is_ascii_control}
use Rattle.go_base.specs.Bytes.{tab, newline, space, hash}

-- What is kept: all but the control characters (0 to 31, and 127), of which HT (9) and LF (10) are kept. Bytes from 128
-- on are ordinary bytes (own).
abbrev pub is_kept : ℕ → Bool
is_kept b = b == tab || (b == newline || not (is_ascii_control b))

-- HT becomes a space
abbrev pub space_for_tab : ℕ → ℕ
space_for_tab b = if b == tab then space else b

-- LF, the newline that ends a line
abbrev pub is_newline : ℕ → Bool
is_newline b = b == newline

abbrev pub is_space : ℕ → Bool
is_space b = b == space

-- `=`, which begins a reply to a command that succeeded
abbrev pub equals_sign : ℕ
equals_sign = 61

-- `?`, which begins a reply to a command that failed
abbrev pub question_mark : ℕ
question_mark = 63

-- `~`, the last of the bytes that ASCII prints
abbrev pub tilde : ℕ
tilde = 126

-- what is before the first `#`, or all of it: `#` begins a comment
abbrev pub before_hash : List ℕ → List ℕ
before_hash [] = []
before_hash (b ∷ bs) = if b == hash then [] else b ∷ before_hash bs

-- what may be before a reply (own), and separates the words of its text: spaces and newlines
abbrev pub is_blank : ℕ → Bool
is_blank b = is_space b || is_newline b

-- a byte of a word of a reply's text
abbrev pub is_inside : ℕ → Bool
is_inside b = not (is_blank b)
