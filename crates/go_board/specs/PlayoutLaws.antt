-- Laws of playouts.
use Rattle.std.specs.Prelude.{◌≡◌, ℕ, ◌-◌, List, ◌++◌}
use Rattle.go_base.specs.Colour.{other}
use Rattle.go_base.specs.declared.colours.Colour.{Colour}
use Rattle.go_base.specs.declared.vertices.Vertex.{Vertex}
use Rattle.go_base.specs.declared.vertices.Vertex.TheVariants.{Pass, At}
use Rattle.go_board.specs.Candidates.{IsCandidate}
use Rattle.go_board.specs.Game.{GameRecord, IsGame, with_move}
use Rattle.go_board.specs.Playouts.{AreEmptyPoints, Ends, IsPlayout}

-- The words decide a playout: where two playouts from one game draw by words that begin one list, they leave one game.
abbrev pub WordsDecidePlayouts : Type 0
WordsDecidePlayouts = (game : GameRecord) (c : Colour) (limit : ℕ) (order same words others more rest : List ℕ)
    (a b : GameRecord) → AreEmptyPoints game order → AreEmptyPoints game same
    → IsPlayout game c order limit words a → IsPlayout game c same limit others b
    → words ++ more ≡ others ++ rest → a ≡ b

-- a turn of a colour in the game: it plays a candidate, or passes where there is none
abbrev pub IsRightTurn : GameRecord → Colour → Vertex → Type 0
IsRightTurn game c Pass = (p : ℕ) → ¬ IsCandidate game c p
IsRightTurn game c (At p) = IsCandidate game c p

-- The colours take such turns one after the other, this one first, until a playout that may make `limit` moves ends. The
-- game is then `after`.
pub data AreRightTurns : GameRecord → Colour → ℕ → GameRecord → Type 0 where
  none : {game : GameRecord} {c : Colour} {limit : ℕ} → Ends game limit → AreRightTurns game c limit game
  turn : {game : GameRecord} {c : Colour} {limit : ℕ} {after : GameRecord} (v : Vertex) → ¬ Ends game limit
      → IsRightTurn game c v → AreRightTurns (with_move game c v) (other c) (limit - 1) after
      → AreRightTurns game c limit after

-- A playout consists of such turns.
abbrev pub PlayoutsTakeRightTurns : Type 0
PlayoutsTakeRightTurns = (game : GameRecord) (c : Colour) (order : List ℕ) (limit : ℕ) (words : List ℕ)
    (after : GameRecord) → IsGame game → AreEmptyPoints game order → IsPlayout game c order limit words after
    → AreRightTurns game c limit after
