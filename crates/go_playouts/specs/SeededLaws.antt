-- Laws of playouts by a seed.
use Rattle.std.specs.Prelude.{◌≡◌, ℕ, ℤ}
use Rattle.go_base.specs.declared.colours.Colour.{Colour}
use Rattle.go_board.specs.Area.{score}
use Rattle.go_board.specs.Game.{GameRecord}
use Rattle.go_playouts.specs.Seeded.{IsSeededPlayout, IsSeededRollout}

-- The seed decides: two playouts from one game, by one colour, seed and limit, leave one game.
abbrev pub SeedsDecidePlayouts : Type 0
SeedsDecidePlayouts = (game : GameRecord) (c : Colour) (seed limit : ℕ) (a b : GameRecord)
    → IsSeededPlayout game c seed limit a → IsSeededPlayout game c seed limit b → a ≡ b

-- A rollout has the score of the game that the playout of the same colour, seed and limit leaves.
abbrev pub RolloutsScorePlayouts : Type 0
RolloutsScorePlayouts = (game : GameRecord) (c : Colour) (seed limit : ℕ) (result : ℤ) (after : GameRecord)
    → IsSeededRollout game c seed limit result → IsSeededPlayout game c seed limit after → result ≡ score after
