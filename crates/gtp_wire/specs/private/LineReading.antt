-- What a line reader holds.
use Rattle.std.specs.Prelude.{◌≡◌, ℕ, ◌<◌, ◌≤◌, Bool, true, false, List, [], ◌∷◌, Option, None, IfSome, length, ◌&&◌}
use Rattle.std.specs.Prelude.{◌==◌, not, ◌⊎◌}
use Rattle.std.specs.List.{slice_split, AllByRecursion}
use Rattle.go_base.specs.Bytes.{tab, newline, space, hash}
use Rattle.go_base.specs.Int.{int_of, most_int}
use Rattle.gtp_wire.specs.declared.lines.Stage.{Stage}
use Rattle.gtp_wire.specs.declared.lines.Stage.TheVariants.{Word, Gap, Comment}
use Rattle.gtp_wire.specs.declared.lines.Kind.{Kind}
use Rattle.gtp_wire.specs.declared.lines.Kind.TheVariants.{Space, Removed, Hash, Other}
use Rattle.gtp_wire.specs.Bytes.{is_kept, is_space}
use Rattle.gtp_wire.specs.Words.{most_line_bytes}

-- what is after the words so far: nothing, a space, or the `#` that begins a comment
abbrev pub ending : Stage → List ℕ
ending Word = []
ending Gap = space ∷ []
ending Comment = hash ∷ []

-- a byte of a word, or a space: no control character, HT, LF or `#`
abbrev pub is_plain : ℕ → Bool
is_plain b = is_kept b && (not (b == tab) && (not (b == newline) && not (b == hash)))

-- what a byte is to a line that it doesn't end
abbrev pub IsKind : ℕ → Kind → Type 0
IsKind b Space = (b ≡ tab) ⊎ (b ≡ space)
IsKind b Removed = is_kept b ≡ false
IsKind b Hash = b ≡ hash
IsKind b Other = (is_plain b ≡ true) × (is_space b ≡ false)

-- the bytes are words joined by single spaces, or none
pub record HoldsWords (held : List ℕ) : Type 0 where
  pub plain : AllByRecursion (λ b. is_plain b ≡ true) held
  pub single : 0 < length held → AllByRecursion (λ part. 0 < length part) (slice_split is_space held)

-- words joined by single spaces, one at least, in no more bytes than the words of a line have
pub record IsLineText (text : List ℕ) : Type 0 where
  pub joined : HoldsWords text
  pub some : 0 < length text
  pub few : length text ≤ most_line_bytes

-- a space follows words only
pub record HoldsLine (held : List ℕ) (stage : Stage) : Type 0 where
  pub joined : HoldsWords held
  pub gap : stage ≡ Gap → 0 < length held

-- the int that the first of the words is
abbrev pub id_of_words : List (List ℕ) → Option ℕ
id_of_words [] = None
id_of_words (w ∷ ws) = int_of w

-- a command line holds words joined by single spaces, one at least, and its id is an int
pub record HoldsCommand (id : Option ℕ) (text : List ℕ) : Type 0 where
  pub joined : HoldsWords text
  pub some : 0 < length text
  pub int : IfSome id (λ n. n ≤ most_int)
