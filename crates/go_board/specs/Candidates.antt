-- Candidates for a random move, and the move that a word chooses among them. (Own.)
use Rattle.std.specs.Prelude.{◌≡◌, ℕ, ◌+◌, ◌%◌, ◌<◌, ◌≤◌, ◌↔◌, List, [], Contains, length, slice_get, Some}
use Rattle.std.specs.List.{AllPairs}
use Rattle.go_base.specs.declared.colours.Colour.{Colour}
use Rattle.go_base.specs.declared.vertices.Vertex.{Vertex}
use Rattle.go_base.specs.declared.vertices.Vertex.TheVariants.{Pass, At}
use Rattle.go_board.specs.Eye.{IsOwnEye}
use Rattle.go_board.specs.Game.{GameRecord, IsLegal, board_of}

-- the colour may play on the point, and it is no own eye of that colour
pub record IsCandidate (game : GameRecord) (c : Colour) (p : ℕ) : Type 0 where
  pub legal : IsLegal game c (At p)
  pub no_eye : ¬ IsOwnEye (board_of game) c p

-- The list has each candidate of the colour, and no other point, row by row from A1 and each once.
pub record AreCandidates (game : GameRecord) (c : Colour) (points : List ℕ) : Type 0 where
  pub each : (p : ℕ) → Contains points p ↔ IsCandidate game c p
  pub in_order : AllPairs (λ p q. p < q) points

-- of n points that of number `word` mod n, counted from 0; a pass where there is none
abbrev pub IsChosen : List ℕ → ℕ → Vertex → Type 0
IsChosen points word Pass = points ≡ []
IsChosen points word (At p) = slice_get points (word % length points) ≡ Some p

-- the word chooses this move among the candidates of the colour
pub record IsRandomMove (game : GameRecord) (c : Colour) (word : ℕ) (v : Vertex) : Type 0 where
  pub points : List ℕ
  pub candidates : AreCandidates game c points
  pub chosen : IsChosen points word v

-- of `many` words from `first` on just one has the property
pub record IsOfOneWord (first many : ℕ) (P : ℕ → Type 0) : Type 0 where
  pub word : ℕ
  pub from : first ≤ word
  pub below : word < first + many
  pub has : P word
  pub only : (w : ℕ) → first ≤ w → w < first + many → P w → w ≡ word

-- Of as many words in a row as there are candidates, each candidate is chosen by just one.
abbrev pub CandidatesAreChosenEvenly : Type 0
CandidatesAreChosenEvenly = (game : GameRecord) (c : Colour) (points : List ℕ) (first p : ℕ)
    → AreCandidates game c points → IsCandidate game c p
    → IsOfOneWord first (length points) (λ word. IsRandomMove game c word (At p))
