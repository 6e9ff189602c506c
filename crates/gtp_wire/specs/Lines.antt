-- The command lines of a text. (The standard, preprocessing and command structure.)
use Rattle.std.specs.Prelude.{◌≡◌, ◌<◌, ◌≤◌, ℕ, Bool, true, false, List, [], ◌∷◌, ◌++◌, length, take, filter, map}
use Rattle.std.specs.Prelude.{nat_lt, Option, Some, None, IfSome, IfNone, if◌then◌else◌}
use Rattle.std.specs.List.{slice_split, filter_map, join_with_byte}
use Rattle.std.specs.Option.{option_to_list}
use Rattle.go_base.specs.Bytes.{newline, space}
use Rattle.gtp_wire.specs.declared.lines.Line.{Line}
use Rattle.gtp_wire.specs.declared.lines.Line.TheVariants.{Command, TooLong}
use Rattle.gtp_wire.specs.Bytes.{is_kept, space_for_tab, is_newline, before_hash}
use Rattle.gtp_wire.specs.Words.{words, command_of, most_line_bytes}

-- all but the last
abbrev pub but_last : {X : Type 0} → List X → List X
but_last [] = []
but_last (x ∷ []) = []
but_last (x ∷ y ∷ more) = x ∷ but_last (y ∷ more)

-- the first of them, where there is one
abbrev pub head_of : {X : Type 0} → List X → Option X
head_of [] = None
head_of (x ∷ xs) = Some x

-- What a line with these words is: nothing where it has none; too long where they, joined by single spaces, have more
-- than 1,000 bytes; else a command.
unfoldable pub line_of_words : List (List ℕ) → Option Line
line_of_words [] = None
line_of_words (w ∷ ws) =
    Some (if nat_lt most_line_bytes (length (join_with_byte space (w ∷ ws))) then TooLong else
    Command (command_of (w ∷ ws)))

-- One line without its newline: `#` and all that follows it is removed, HT turns into a space, and what is left is its
-- words.
unfoldable pub line_of : List ℕ → Option Line
line_of bytes = line_of_words (words (map space_for_tab (before_hash bytes)))

-- The lines of a text: the control characters but HT and LF are removed, the text is cut at each LF, the part after the
-- last LF is dropped (own: an unfinished line is none), and each other part is a line where it has a word.
unfoldable pub lines : List ℕ → List Line
lines text = filter_map line_of (but_last (slice_split is_newline (filter is_kept text)))

-- The text ends with the newline that ends a first line: no whole line is in what was held and the text before it.
pub record EndsLine (held text : List ℕ) : Type 0 where
  pub front : List ℕ
  pub newline : text ≡ front ++ newline ∷ []
  pub before : lines (held ++ front) ≡ []

-- The texts read alike with every text after them.
abbrev pub SameFuture : List ℕ → List ℕ → Type 0
SameFuture a b = (later : List ℕ) → lines (a ++ later) ≡ lines (b ++ later)

-- In what was held and the text these lines are found. What is held then has no whole line, and whatever comes later
-- reads after it as it would have after the text.
pub record Finds (old text : List ℕ) (found : List Line) (new : List ℕ) : Type 0 where
  pub rest : (later : List ℕ) → lines (old ++ (text ++ later)) ≡ found ++ lines (new ++ later)
  pub no_line : lines new ≡ []

-- A reader that held `old` reads a chunk: it uses `used` bytes of it, and finds `line`, or none; then it holds `new`.
pub record ReadsLine (old input : List ℕ) (used : ℕ) (line : Option Line) (new : List ℕ) : Type 0 where
  -- no whole line was held back
  pub held : lines old ≡ []
  -- the line is the first of all that came
  pub first : line ≡ head_of (lines (old ++ input))
  -- with a line, the bytes used end with the newline that makes it, and make nothing else
  pub within : used ≤ length input
  pub whole : IfSome line (λ found. lines (old ++ take used input) ≡ found ∷ [])
  pub newline : IfSome line (λ found. EndsLine old (take used input))
  pub before : (k : ℕ) → k < used → lines (old ++ take k input) ≡ []
  -- without one, all are used
  pub none : IfNone line (used ≡ length input)
  -- whatever comes next, what is left reads as it would have after the bytes that were used
  pub finds : Finds old (take used input) (option_to_list line) new
  -- of a chunk that isn't empty one byte at least is used
  pub progress : 0 < length input → 0 < used

-- the line, where one was found
abbrev pub line_if : Bool → Line → Option Line
line_if true line = Some line
line_if false line = None
