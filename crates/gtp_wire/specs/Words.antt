-- The words of a text, and of a command line. (The standard, command structure.)
use Rattle.std.specs.Prelude.{ℕ, Bool, ◌==◌, ◌&&◌, not, List, [], ◌∷◌, length, filter, nat_lt}
use Rattle.std.specs.Prelude.{Option, Some, None, is_some, if◌then◌else◌}
use Rattle.std.specs.Char.{is_ascii_control}
use Rattle.std.specs.List.{slice_split, list_all}
use Rattle.go_base.specs.Bytes.{hash}
use Rattle.go_base.specs.Int.{int_of, written_int}
use Rattle.gtp_wire.specs.Bytes.{is_space, is_blank}

-- the maximal runs of a text without a byte that separates: the parts between such bytes, without the empty ones
abbrev pub words_by : (ℕ → Bool) → List ℕ → List (List ℕ)
words_by separates text = filter (λ part. nat_lt 0 (length part)) (slice_split separates text)

-- the words of a command line: the maximal runs without a space
abbrev pub words : List ℕ → List (List ℕ)
words text = words_by is_space text

-- the words of a reply's text: the maximal runs without a space or a newline
unfoldable pub reply_words : List ℕ → List (List ℕ)
reply_words text = words_by is_blank text

-- a command line: its id, where it has one, and the words after it, the command's name first
pub record CommandWords : Type 0 where
  pub id : Option ℕ
  pub words : List (List ℕ)

-- The first word is the id where it is an int; else it is the command's name. A line with an id alone has no other
-- word (own).
abbrev pub command_of : List (List ℕ) → CommandWords
command_of [] = record { id = None; words = [] }
command_of (w ∷ ws) =
    if is_some (int_of w) then record { id = int_of w; words = ws } else record { id = None; words = w ∷ ws }

-- the most bytes that the words of a line have, the id's word included, joined by single spaces (own)
abbrev pub most_line_bytes : ℕ
most_line_bytes = 1000

-- a byte of a word as it is written: no space, no control character and no `#`
abbrev pub is_word_byte : ℕ → Bool
is_word_byte b = not (is_ascii_control b) && (not (is_space b) && not (b == hash))

-- a word as it is written: one such byte or more, and no other
abbrev pub is_written_word : List ℕ → Bool
is_written_word text = nat_lt 0 (length text) && list_all is_word_byte text

-- the id as a word, where there is one
abbrev pub id_words : Option ℕ → List (List ℕ)
id_words None = []
id_words (Some n) = written_int n ∷ []
