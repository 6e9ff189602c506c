-- Lines of texts. (Own.)
use Rattle.std.specs.Prelude.{ℕ, List, [], ◌∷◌}
use Rattle.std.specs.List.{slice_split}
use Rattle.gtp_check_talk.specs.Lines.{is_newline}

-- the lines of a text: its parts between newlines, and so the one after the last newline too
abbrev pub lines_of : List ℕ → List (List ℕ)
lines_of text = slice_split is_newline text

-- all but the last of a list
abbrev pub all_but_last : {A : Type 0} → List A → List A
all_but_last [] = []
all_but_last (last ∷ []) = []
all_but_last (first ∷ second ∷ more) = first ∷ all_but_last (second ∷ more)
