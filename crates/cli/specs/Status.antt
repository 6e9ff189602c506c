-- The statuses that every program ends with, the form of its lines on standard error, and what its words may ask for.
-- (Own.)
use Rattle.std.specs.Prelude.{◌≡◌, ◌⊎◌, ℕ, List, [], ◌∷◌, ◌++◌, codes}
use Rattle.clap.specs.declared.error.kind.ErrorKind.{ErrorKind}
use Rattle.clap.specs.declared.error.kind.ErrorKind.TheVariants.{DisplayHelp, DisplayVersion}

-- it did what it was asked for, or the help or the version was shown
abbrev pub done : ℕ
done = 0

-- the words of its command line have a mistake
abbrev pub usage_failure : ℕ
usage_failure = 2

-- it could not go on
abbrev pub own_failure : ℕ
own_failure = 3

-- LF, which ends a line
abbrev pub line_end : ℕ
line_end = 10

-- the line of a program's mistake or failure: `NAME: TEXT`
abbrev pub error_line : List ℕ → List ℕ → List ℕ
error_line name text = name ++ (codes ": " ++ (text ++ line_end ∷ []))

-- a standard stream is closed, and the null device that would hold its number can't be opened
abbrev pub no_null_device : List ℕ
no_null_device = codes "a standard stream is closed, and /dev/null can't be opened"

-- the words ask for the help or for the version
abbrev pub IsRequest : ErrorKind → Type 0
IsRequest kind = (kind ≡ DisplayHelp) ⊎ (kind ≡ DisplayVersion)
