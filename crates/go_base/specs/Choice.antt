-- What an engine chooses when it is asked for a move, and the texts that spell it. (The standard, core play commands: a
-- `genmove` is answered by a vertex or by `resign`; that the case of `resign` is ignored is own.)
use Rattle.std.specs.Prelude.{ℕ, List, Option, Some, option_map, codes, if◌then◌else◌}
use Rattle.go_base.specs.Vertex.{SpellsVertex, vertex_of}
use Rattle.go_base.specs.Word.{IsWord, is_word}
use Rattle.go_base.specs.declared.choices.Choice.{Choice}
use Rattle.go_base.specs.declared.choices.Choice.TheVariants.{Resign, Play}

-- The text spells the choice: it is `resign`, whatever the case, or spells the vertex.
abbrev pub SpellsChoice : Choice → List ℕ → Type 0
SpellsChoice Resign text = IsWord (codes "resign") text
SpellsChoice (Play vertex) text = SpellsVertex vertex text

-- the choice that the text spells, where it spells one
abbrev pub choice_of : List ℕ → Option Choice
choice_of text = if is_word (codes "resign") text then Some Resign else option_map Play (vertex_of text)
