-- The list of lessons. (Own.)
use Rattle.std.specs.Prelude.{ℕ, List, [], ◌∷◌, codes, length, drop, map, min, slice_get, unwrap_or}
use Rattle.std.specs.List.{concat}
use Rattle.gtp_check_course.specs.Lessons.{all_lessons, name_of, number_of}
use Rattle.gtp_check_course.specs.declared.lessons.Lesson.{Lesson}
use Rattle.gtp_check_texts.specs.declared.listing.TheConstants.{ASKED}

-- what a lesson asks
abbrev pub asked_text : Lesson → List ℕ
asked_text lesson = unwrap_or (slice_get (map (λ text. text.now) ASKED) (number_of lesson)) []

-- the spaces after a name of this many bytes: up to thirteen bytes together, and one space at least
abbrev pub spaces_after : ℕ → List ℕ
spaces_after length = drop (min length 12) (codes "             ")

-- the line of a lesson: its name, and what is asked
abbrev pub lesson_line : Lesson → List ℕ
lesson_line lesson = concat (
    name_of lesson ∷ spaces_after (length (name_of lesson)) ∷ asked_text lesson ∷ codes "\n" ∷ [])

-- the lines of all lessons, in the order of a course
abbrev pub list_lines : List ℕ
list_lines = concat (map lesson_line all_lessons)
