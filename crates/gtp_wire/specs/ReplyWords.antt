-- The words of a reply's text, and what they say.
use Rattle.std.specs.Prelude.{◌≡◌, ℕ, ◌==◌, ◌&&◌, Bool, false, map, List, [], ◌∷◌}
use Rattle.std.specs.Prelude.{length, Option, None, Some}
use Rattle.std.specs.List.{list_all, list_any}
use Rattle.std.specs.List.Sorted.{IsPermutation}
use Rattle.go_base.specs.Choice.{choice_of}
use Rattle.go_base.specs.Vertex.{vertex_of}
use Rattle.go_base.specs.declared.vertices.Vertex.{Vertex}
use Rattle.go_base.specs.declared.vertices.Vertex.TheVariants.{Pass, At}
use Rattle.go_base.specs.declared.choices.Choice.{Choice}
use Rattle.gtp_wire.specs.Words.{reply_words}

-- ---- what is answered to a `genmove`

abbrev pub choice_of_words : List (List ℕ) → Option Choice
choice_of_words [] = None
choice_of_words (word ∷ []) = choice_of word
choice_of_words (word ∷ more ∷ words) = None

-- the choice that the text is, where it is one word that is a choice
abbrev pub choice_of_text : List ℕ → Option Choice
choice_of_text text = choice_of_words (reply_words text)

-- ---- what is answered to a `fixed_handicap`

abbrev pub is_at : ℕ → Option Vertex → Bool
is_at p None = false
is_at p (Some Pass) = false
is_at p (Some (At q)) = q == p

-- the word is a vertex, and it is this point
abbrev pub names_point : ℕ → List ℕ → Bool
names_point p word = is_at p (vertex_of word)

-- The words are vertices that are the points, each once, in any order: they are as many as the points, and each point
-- is among them. (A law says that this is so of distinct points, as those of a handicap are.)
abbrev pub names_points : List ℕ → List (List ℕ) → Bool
names_points points words = length words == length points && list_all (λ p. list_any (names_point p) words) points

-- each word is a vertex on one of the points, and each point is named by one word
pub record NamesEachOnce (points : List ℕ) (words : List (List ℕ)) : Type 0 where
  pub named : List ℕ
  pub words_are : map vertex_of words ≡ map (λ p. Some (At p)) named
  pub each_once : IsPermutation points named
