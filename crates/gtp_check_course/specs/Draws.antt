-- The words that a step draws. Each step has words of its own, by the seed of the course and by where the step is.
use Rattle.std.specs.Prelude.{ℕ, ◌*◌, ◌%◌}
use Rattle.rand_pcg.specs.Lcg.{Lcg, advance}
use Rattle.rand_core.specs.Pcg32Seed.{pcg32_seed}
use Rattle.rand_pcg.specs.Pcg.{multiplier_128, pcg64, pcg64_of_seed}
use Rattle.gtp_check_course.specs.declared.draws.Draws.{Draws}

-- how many words are kept for a step
abbrev pub words_of_step : ℕ
words_of_step = 128

-- the generator that `seed_from_u64` makes of a seed
abbrev pub generator_of : ℕ → Lcg
generator_of seed = pcg64_of_seed (pcg32_seed 32 seed)

-- the generator of a step's words: that of the seed, past the words of all steps that have lower numbers
unfoldable pub generator_of_step : Draws → Lcg
generator_of_step draws = advance 128 multiplier_128 (words_of_step * draws.number) (generator_of draws.seed)

-- a generator past so many of its words
unfoldable pub past_words : ℕ → Lcg → Lcg
past_words count generator = advance 128 multiplier_128 count generator

-- the word of this number of a generator, counted from 0
unfoldable pub word_at : Lcg → ℕ → ℕ
word_at generator number = (pcg64 (past_words number generator)).0

-- the number below a limit that this word draws: what is left of the word where it is divided by the limit
abbrev pub drawn_below : Lcg → ℕ → ℕ → ℕ
drawn_below generator number limit = word_at generator number % limit
