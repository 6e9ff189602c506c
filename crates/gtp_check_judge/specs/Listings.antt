-- What is answered to `list_commands`. (The standard, administrative commands: `list_commands` lists all known commands,
-- one a row. The order is free, and an engine may know any others.)
use Rattle.std.specs.Prelude.{ℕ, Bool, false, List, [], ◌∷◌, codes}
use Rattle.std.specs.List.{list_all, list_any, slice_split}
use Rattle.std.specs.Str.{bytes_eq}
use Rattle.gtp_wire.specs.Bytes.{is_newline}
use Rattle.gtp_wire.specs.Words.{reply_words}

-- the commands that the standard requires of every engine: the administrative ones, and those of setup and of play
abbrev pub required_commands : List (List ℕ)
required_commands =
    codes "protocol_version" ∷ codes "name" ∷ codes "version" ∷ codes "known_command" ∷ codes "list_commands"
    ∷ codes "quit" ∷ codes "boardsize" ∷ codes "clear_board" ∷ codes "komi" ∷ codes "play" ∷ codes "genmove" ∷ []

-- the rows of a text: the parts between its newlines
unfoldable pub rows : List ℕ → List (List ℕ)
rows text = slice_split is_newline text

-- the name is the only one of these words
abbrev pub is_only : List ℕ → List (List ℕ) → Bool
is_only name [] = false
is_only name (word ∷ []) = bytes_eq name word
is_only name (word ∷ other ∷ later) = false

-- A row is that of a name: it has this word, and no other.
abbrev pub is_row_of : List ℕ → List ℕ → Bool
is_row_of name row = is_only name (reply_words row)

-- one of the rows is that of the name
abbrev pub is_listed : List (List ℕ) → List ℕ → Bool
is_listed rows name = list_any (is_row_of name) rows

-- each of these names has a row, wherever it stands and whatever else is there
abbrev pub are_listed : List (List ℕ) → List (List ℕ) → Bool
are_listed rows names = list_all (is_listed rows) names

-- each of those commands has one
abbrev pub lists_required : List (List ℕ) → Bool
lists_required rows = are_listed rows required_commands
