-- A policy that draws a candidate. (Own.)
use Rattle.std.specs.Prelude.{◌≡◌, ℕ, ◌%◌, List, [], ◌∷◌, length, slice_get, Option}
use Rattle.go_base.specs.declared.vertices.Vertex.TheVariants.{Pass}
use Rattle.rand_core.specs.Pcg32Seed.{pcg32_seed}
use Rattle.rand_pcg.specs.Lcg.{Lcg}
use Rattle.rand_pcg.specs.Pcg.{pcg64, pcg64_of_seed}
use Rattle.go_base.specs.declared.choices.Choice.{Choice}
use Rattle.go_base.specs.declared.choices.Choice.TheVariants.{Play}
use Rattle.gtp_session.specs.Candidates.{play_or_pass}

-- the generator that `seed_from_u64` makes of a seed
abbrev pub generator_of : ℕ → Lcg
generator_of seed = pcg64_of_seed (pcg32_seed 32 seed)

-- the candidate that a word names: number `word mod n` of n, counted from 0
abbrev pub draw : List ℕ → ℕ → Option ℕ
draw all word = slice_get all (word % length all)

-- Of these candidates the generator's next word names the choice, and the generator moves on by that word. Without a
-- candidate the choice is to pass, and no word is drawn.
abbrev pub MayDraw : List ℕ → Lcg → Choice → Lcg → Type 0
MayDraw [] old choice new = (choice ≡ Play Pass) × (new ≡ old)
MayDraw (p ∷ ps) old choice new = (choice ≡ play_or_pass (draw (p ∷ ps) (pcg64 old).0)) × (new ≡ (pcg64 old).1)
