-- How a scene is turned. (The eight symmetries of a square board, and the two colours.)
use Rattle.std.specs.Prelude.{ℕ, ◌+◌, ◌-◌, ◌/◌, ◌%◌, Bool, not, nat_le, ◌==◌, ◌&&◌, if◌then◌else◌}
use Rattle.std.specs.Prelude.{List, [], map, Option, None, Some, slice_get, slice_index_or}
use Rattle.go_base.specs.Point.{point}
use Rattle.go_base.specs.Size.{most_size}
use Rattle.go_base.specs.Colour.{other}
use Rattle.go_base.specs.declared.colours.Colour.{Colour}
use Rattle.go_base.specs.declared.moves.Move.{Move}
use Rattle.go_base.specs.declared.vertices.Vertex.{Vertex}
use Rattle.go_base.specs.declared.vertices.Vertex.TheVariants.{Pass, At}
use Rattle.gtp_check_course.specs.declared.lessons.Lesson.{Lesson}
use Rattle.gtp_check_course.specs.declared.lessons.Lesson.TheVariants.{Captures, Suicide, Joining}
use Rattle.gtp_check_course.specs.declared.scenes.Gaps.{Gaps}
use Rattle.gtp_check_course.specs.declared.scenes.TheConstants.{CAPTURES, JOINING, KO, KO_GAPS, SUICIDE, WAYS}
use Rattle.gtp_check_course.specs.declared.scenes.Way.{Way}
use Rattle.gtp_check_course.specs.Lessons.{even_parts}

-- the vertex where a column and a row cross; a pass where there is none
abbrev pub crossing : ℕ → ℕ → Vertex
crossing column row =
    if nat_le 1 column && nat_le column most_size && nat_le 1 row && nat_le row most_size then At (point column row)
    else Pass

-- the line itself, or the one that it changes places with on a board of this size
abbrev pub mirrored : ℕ → ℕ → Bool → ℕ
mirrored line size is_mirrored = if is_mirrored then size + 1 - line else line

-- the ways: their binary digits are the three kinds of turning, and whether the colours change places
abbrev pub way_of : ℕ → Way
way_of number = record {
  sideways = number % 2 == 1;
  upside_down = number / 2 % 2 == 1;
  across = number / 4 % 2 == 1;
  swapped = number / 8 % 2 == 1;
}

-- the first of the ways: the board isn't turned, and the colours don't change places
abbrev pub is_first : Way → Bool
is_first way = not way.sideways && not way.upside_down && not way.across && not way.swapped

-- the vertex of a crossing that is turned so
abbrev pub turned : Way → ℕ → ℕ → ℕ → Vertex
turned way column row size =
    if way.across then crossing (mirrored row size way.upside_down) (mirrored column size way.sideways)
    else crossing (mirrored column size way.sideways) (mirrored row size way.upside_down)

-- the colour that plays a colour's moves
abbrev pub turned_colour : Way → Colour → Colour
turned_colour way colour = if way.swapped then other colour else colour

-- a move of a scene that is turned so
abbrev pub turned_act : Way → Colour × ℕ × ℕ → ℕ → Move
turned_act way act size = record { colour = turned_colour way act.0; vertex = turned way act.1 act.2 size }

-- ---- the scenes

-- The moves of a scene: the colour, the column and the row of each. The last is the act.
abbrev pub Acts : Type 0
Acts = List (Colour × ℕ × ℕ)

-- the scenes of a lesson; one without scenes of its own has those of kos
abbrev pub scenes_of : Lesson → List Acts
scenes_of Captures = map (λ scene. scene.now) CAPTURES
scenes_of Suicide = map (λ scene. scene.now) SUICIDE
scenes_of Joining = map (λ scene. scene.now) JOINING
scenes_of _ = map (λ scene. scene.now) KO

abbrev pub acts_if : Option Acts → Acts
acts_if None = []
acts_if (Some acts) = acts

-- whether the games of a part's scene begin with a handicap of two stones
abbrev pub has_handicap : Lesson → ℕ → Bool
has_handicap lesson part = nat_le (even_parts lesson) part

-- The number of the scene of a part. Each has sixteen parts in even games, and after all of these come four parts of
-- each with a handicap.
abbrev pub scene_number : Lesson → ℕ → ℕ
scene_number lesson part =
    if has_handicap lesson part then (part - even_parts lesson) / 4
    else part / WAYS

-- the scene of a part
abbrev pub scene_of : Lesson → ℕ → Acts
scene_of lesson part = acts_if (slice_get (scenes_of lesson) (scene_number lesson part))

-- the gaps of a part
abbrev pub gaps_of : Lesson → ℕ → Gaps
gaps_of lesson part =
    slice_index_or KO_GAPS (scene_number lesson part) (record { first = (1, 3); second = (1, 3) })
