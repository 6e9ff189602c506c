-- Playouts by the words of a seed.
use Rattle.std.specs.Prelude.{◌≡◌, ℕ, ℤ, zero, suc, List, [], ◌∷◌}
use Rattle.rand_core.specs.Pcg32Seed.{pcg32_seed}
use Rattle.rand_pcg.specs.Lcg.{Lcg}
use Rattle.rand_pcg.specs.Pcg.{pcg64, pcg64_of_seed}
use Rattle.go_base.specs.declared.colours.Colour.{Colour}
use Rattle.go_board.specs.Area.{score}
use Rattle.go_board.specs.Game.{GameRecord}
use Rattle.go_board.specs.Playouts.{AreEmptyPoints, IsPlayout}

-- the generator that `seed_from_u64` makes of a seed
abbrev pub generator_of : ℕ → Lcg
generator_of seed = pcg64_of_seed (pcg32_seed 32 seed)

-- the generator's next word, and the generator after it
abbrev pub gives_next : Lcg → ℕ → Lcg → Type 0
gives_next old word new = (word, new) ≡ pcg64 old

-- the first n words of a generator
abbrev pub first_words : ℕ → Lcg → List ℕ
first_words zero g = []
first_words (suc n) g = (pcg64 g).0 ∷ first_words n (pcg64 g).1

-- Some number of the seed's first words draw a playout of at most `limit` moves, from the game on and the colour first,
-- and `after` is the game after it.
pub record IsSeededPlayout (game : GameRecord) (c : Colour) (seed limit : ℕ) (after : GameRecord) : Type 0 where
  pub order : List ℕ
  pub many : ℕ
  pub empty : AreEmptyPoints game order
  pub playout : IsPlayout game c order limit (first_words many (generator_of seed)) after

-- the score of the game after such a playout
pub record IsSeededRollout (game : GameRecord) (c : Colour) (seed limit : ℕ) (result : ℤ) : Type 0 where
  pub after : GameRecord
  pub playout : IsSeededPlayout game c seed limit after
  pub result_is : result ≡ score after
