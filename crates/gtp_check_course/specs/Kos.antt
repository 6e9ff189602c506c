-- When a scene is a ko, by its stones alone. A scene is in a corner, so each crossing is given by its column and its
-- row, counted from there.
use Rattle.std.specs.Prelude.{◌≡◌, ℕ, ◌+◌, ◌-◌, ◌==◌, nat_lt, nat_le, ◌||◌, ◌&&◌, if◌then◌else◌, Bool, true, false}
use Rattle.std.specs.Prelude.{List, [], ◌∷◌, ◌++◌, not}
use Rattle.go_base.specs.Colour.{other}
use Rattle.go_base.specs.declared.colours.Colour.{Colour}
use Rattle.go_base.specs.declared.colours.Colour.TheVariants.{Black, White}
use Rattle.gtp_check_course.specs.Scenes.{Acts}

-- the line before and the one after, of the first five
abbrev pub lines_beside : ℕ → List ℕ
lines_beside line =
    (if nat_lt 1 line then (line - 1) ∷ [] else []) ++ (if nat_lt line 5 then (line + 1) ∷ [] else [])

abbrev pub in_column : ℕ → List ℕ → List (ℕ × ℕ)
in_column column [] = []
in_column column (row ∷ rows) = (column, row) ∷ in_column column rows

abbrev pub in_row : ℕ → List ℕ → List (ℕ × ℕ)
in_row row [] = []
in_row row (column ∷ columns) = (column, row) ∷ in_row row columns

-- The crossings next to one, as far as they are in the corner of five lines. To one on the first four lines there are
-- no others, however large the board is.
abbrev pub around : ℕ × ℕ → List (ℕ × ℕ)
around at = in_column at.0 (lines_beside at.1) ++ in_row at.1 (lines_beside at.0)

abbrev pub is_at : ℕ × ℕ → ℕ × ℕ → Bool
is_at one other = one.0 == other.0 && one.1 == other.1

abbrev pub is_among : ℕ × ℕ → List (ℕ × ℕ) → Bool
is_among at [] = false
is_among at (first ∷ others) = is_at at first || is_among at others

abbrev pub is_colour : Colour → Colour → Bool
is_colour Black Black = true
is_colour White White = true
is_colour Black White = false
is_colour White Black = false

-- a move of the scene puts a stone of this colour on the crossing
abbrev pub has_stone : Acts → Colour → ℕ × ℕ → Bool
has_stone [] colour at = false
has_stone (act ∷ others) colour at = is_colour act.0 colour && is_at (act.1, act.2) at || has_stone others colour at

-- no move of the scene is on the crossing
abbrev pub is_empty : Acts → ℕ × ℕ → Bool
is_empty acts at = not (has_stone acts Black at || has_stone acts White at)

-- a stone of this colour is on each of these crossings
abbrev pub have_stones : Acts → Colour → List (ℕ × ℕ) → Bool
have_stones acts colour [] = true
have_stones acts colour (at ∷ others) = has_stone acts colour at && have_stones acts colour others

abbrev pub some_empty : Acts → List (ℕ × ℕ) → Bool
some_empty acts [] = false
some_empty acts (at ∷ others) = is_empty acts at || some_empty acts others

-- each of these stones has an empty crossing next to it, except those on one of these two crossings
abbrev pub are_free : Acts → Acts → ℕ × ℕ → ℕ × ℕ → Bool
are_free acts [] one another = true
are_free acts (act ∷ others) one another =
    (is_at (act.1, act.2) one || is_at (act.1, act.2) another || some_empty acts (around (act.1, act.2)))
    && are_free acts others one another

-- The act of a scene takes one stone, by a stone alone that then has the taken one's point as its one liberty: around
-- the act's crossing are stones of the other colour alone, and around one of them stones of the act's colour alone. All
-- other stones keep an empty crossing beside them, so no other stone is taken, then or before. So a play on the taken
-- stone's point would make the board again that was there before the act, which is what ko forbids.
pub record IsKo (acts : Acts) (act : Colour × ℕ × ℕ) : Type 0 where
  pub taken : ℕ × ℕ
  pub beside : is_among taken (around (act.1, act.2)) ≡ true
  pub inner : nat_le act.1 4 && nat_le act.2 4 && nat_le taken.0 4 && nat_le taken.1 4 ≡ true
  pub alone : have_stones acts (other act.0) (around (act.1, act.2)) ≡ true
  pub one_taken : have_stones acts act.0 (around taken) ≡ true
  pub others_free : are_free acts acts (act.1, act.2) taken ≡ true
