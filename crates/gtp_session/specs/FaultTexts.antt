-- The texts that spell the faults. (Own.)
use Rattle.std.specs.Prelude.{ℕ, ◌==◌, ◌&&◌, List, [], ◌∷◌, nat_le, codes, if◌then◌else◌, Option, Some, None}
use Rattle.std.specs.Prelude.{option_map, option_and_then}
use Rattle.std.specs.Str.{bytes_eq}
use Rattle.go_base.specs.Int.{int_of}
use Rattle.gtp_session.specs.declared.fault.Fault.{Fault}
use Rattle.gtp_session.specs.declared.fault.Fault.TheVariants.{Off, Stop, Cut, Junk, Flood}

-- `:`
abbrev pub colon : ℕ
colon = 58

-- the text before the first colon
abbrev pub before_colon : List ℕ → List ℕ
before_colon [] = []
before_colon (b ∷ bs) = if b == colon then [] else b ∷ before_colon bs

-- the text from the first colon on
abbrev pub from_colon : List ℕ → List ℕ
from_colon [] = []
from_colon (b ∷ bs) = if b == colon then b ∷ bs else from_colon bs

-- the text after its first byte, where there is one
abbrev pub after_first : List ℕ → Option (List ℕ)
after_first [] = None
after_first (b ∷ bs) = Some bs

-- the number, where it lies between these limits
abbrev pub where_between : ℕ → ℕ → Option ℕ → Option ℕ
where_between least most None = None
where_between least most (Some n) = if nat_le least n && nat_le n most then Some n else None

-- the number of a genmove that the text spells, where it spells one
abbrev pub genmove_of : List ℕ → Option ℕ
genmove_of text = where_between 1 2000 (int_of text)

-- how many bytes are kept of a reply, where the text spells that
abbrev pub kept_of : List ℕ → Option ℕ
kept_of text = where_between 0 2048 (int_of text)

-- a cut of both, where both are there
abbrev pub cut_where : Option ℕ → Option ℕ → Option Fault
cut_where None kept = None
cut_where (Some number) None = None
cut_where (Some number) (Some kept) = Some (Cut number kept)

-- the fault of a kind, with the text after its colon
abbrev pub fault_of_kind : List ℕ → List ℕ → Option Fault
fault_of_kind kind numbers =
    if bytes_eq kind (codes "stop") then option_map Stop (genmove_of numbers)
    else (if bytes_eq kind (codes "cut")
    then cut_where (genmove_of (before_colon numbers)) (option_and_then kept_of (after_first (from_colon numbers)))
    else (if bytes_eq kind (codes "junk") then option_map Junk (genmove_of numbers)
    else (if bytes_eq kind (codes "flood") then option_map Flood (genmove_of numbers)
    else None)))

-- the fault of the text before the first colon and of the text after it, where there is one
abbrev pub fault_spelled_by : List ℕ → Option (List ℕ) → Option Fault
fault_spelled_by kind None = if bytes_eq kind (codes "none") then Some Off else None
fault_spelled_by kind (Some numbers) = fault_of_kind kind numbers

-- the fault that a text spells, where it spells one
abbrev pub fault_spelled : List ℕ → Option Fault
fault_spelled text = fault_spelled_by (before_colon text) (after_first (from_colon text))
