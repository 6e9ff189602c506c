-- Texts that are made of parts. (Own.)
use Rattle.std.specs.Prelude.{ℕ, Bool, if◌then◌else◌, List, [], map}
use Rattle.std.specs.Borrow.{Bor}
use Rattle.std.specs.List.{concat}

-- the text where that is so, and else none
abbrev pub text_if : Bool → List ℕ → List ℕ
text_if is_so text = if is_so then text else []

-- the parts, one after the other
abbrev pub joined : List (Bor (List ℕ)) → List ℕ
joined parts = concat (map (λ part. part.now) parts)
