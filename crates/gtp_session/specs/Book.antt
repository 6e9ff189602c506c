-- A policy that reads its choices from a book. (Own.)
use Rattle.std.specs.Prelude.{ℕ, ◌==◌, nat_le, List, [], ◌∷◌, length, map, slice_get, Option, Some, None, option_map}
use Rattle.std.specs.Prelude.{if◌then◌else◌}
use Rattle.std.specs.List.{slice_split}
use Rattle.go_base.specs.Choice.{choice_of}
use Rattle.go_base.specs.declared.colours.Colour.{Colour}
use Rattle.go_base.specs.declared.vertices.Vertex.TheVariants.{Pass}
use Rattle.go_board.specs.Game.{GameRecord}
use Rattle.go_board.specs.decisions.Game.{legal?}
use Rattle.go_base.specs.declared.choices.Choice.{Choice}
use Rattle.go_base.specs.declared.choices.Choice.TheVariants as choice
use Rattle.gtp_session.specs.declared.book.Entry.{Entry}
use Rattle.gtp_session.specs.declared.book.Entry.TheVariants.{Empty, Resign, Play}

-- how many entries a book has room for
abbrev pub most_entries : ℕ
most_entries = 2000

-- the entry of a choice
abbrev pub entry_of_choice : Choice → Entry
entry_of_choice choice.Resign = Resign
entry_of_choice (choice.Play vertex) = Play vertex

-- The entry that a text spells, where it spells one: nothing, or a choice, so `resign` in any case, or a vertex.
abbrev pub entry_of : List ℕ → Option Entry
entry_of text = if length text == 0 then Some Empty else option_map entry_of_choice (choice_of text)

-- the values of a list, where each of its members has one
abbrev pub one_more : Option Entry → Option (List Entry) → Option (List Entry)
one_more None entries = None
one_more (Some entry) entries = option_map (λ more. entry ∷ more) entries

abbrev pub all_entries : List (Option Entry) → Option (List Entry)
all_entries [] = Some []
all_entries (entry ∷ more) = one_more entry (all_entries more)

-- entries, where the book has room for them
abbrev pub where_few : Option (List Entry) → Option (List Entry)
where_few None = None
where_few (Some entries) = if nat_le (length entries) most_entries then Some entries else None

-- `,`
abbrev pub comma : ℕ
comma = 44

-- The book that a text spells, where it spells one: at most 2,000 entries with a comma between each two.
abbrev pub book_of : List ℕ → Option (List Entry)
book_of text = where_few (all_entries (map entry_of (slice_split (λ b. b == comma) text)))

-- what an entry chooses; a vertex that isn't legal is a pass
abbrev pub choice_at : GameRecord → Colour → Option Entry → Choice
choice_at game colour None = choice.Play Pass
choice_at game colour (Some Empty) = choice.Play Pass
choice_at game colour (Some Resign) = choice.Resign
choice_at game colour (Some (Play vertex)) =
    elim (legal? game colour vertex) [ yes _ ↦ choice.Play vertex | no _ ↦ choice.Play Pass ]

-- What the book chooses: by the entry that has the number of the record's moves, counted from 0.
abbrev pub book_choice : List Entry → GameRecord → Colour → Choice
book_choice entries game colour = choice_at game colour (slice_get entries (length game.moves))
