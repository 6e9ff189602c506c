-- The text of a capture, by its parts.
use Rattle.std.proofs.Common.{◌≡◌, ℕ, List, [], ◌∷◌, ◌∙◌, length, take, ap}
use Rattle.std.specs.Prelude.{codes}
use Rattle.std.specs.List.{concat}
use Rattle.go_base.specs.Int.{written_int}
use Rattle.go_base.specs.Vertex.{written_vertices}
use Rattle.go_base.specs.declared.colours.Colour.{Colour}
use Rattle.gtp_check_texts.specs.reasons.Plays.{captures_text, colour_name, more_mark, most_named, stones_word}

-- the parts that hang on the stones
pub record AreParts (c : Colour) (points a b d e f : List ℕ) : Type 0 where
  pub number : a ≡ written_int (length points)
  pub word : b ≡ stones_word (length points)
  pub name : d ≡ colour_name c
  pub vertices : e ≡ written_vertices (take most_named points)
  pub mark : f ≡ more_mark (length points)

-- the text of these parts
abbrev of_parts : List ℕ → List ℕ → List ℕ → List ℕ → List ℕ → List ℕ
of_parts a b d e f = concat (codes "legal: it captures " ∷ a ∷ b ∷ d ∷ codes ": " ∷ e ∷ f ∷ [])

-- the text of a play that takes a stone or more
pub captures-joined : (c : Colour) (points a b d e f : List ℕ) → AreParts c points a b d e f
    → concat (codes "legal: it captures " ∷ a ∷ b ∷ d ∷ codes ": " ∷ e ∷ f ∷ []) ≡ captures_text c points
captures-joined c points a b d e f parts =
    let number = written_int (length points) in
    let word = stones_word (length points) in
    let vertices = written_vertices (take most_named points) in
    ap (λ (t : List ℕ). of_parts t b d e f) parts.number
    ∙ ap (λ (t : List ℕ). of_parts number t d e f) parts.word
    ∙ ap (λ (t : List ℕ). of_parts number word t e f) parts.name
    ∙ ap (λ (t : List ℕ). of_parts number word (colour_name c) t f) parts.vertices
    ∙ ap (λ (t : List ℕ). of_parts number word (colour_name c) vertices t) parts.mark
