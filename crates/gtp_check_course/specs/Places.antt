-- Where a course is, and which places come later.
use Rattle.std.specs.Prelude.{ℕ, ◌+◌, ◌*◌, ◌<◌, Bool, true, false}
use Rattle.gtp_check_course.specs.declared.places.Place.{Place}

-- the most parts of a lesson, stretches of a part, and steps of a stretch
abbrev pub most_parts : ℕ
most_parts = 300

abbrev pub most_stretches : ℕ
most_stretches = 56

abbrev pub most_steps : ℕ
most_steps = 2000

-- the first step of the first lesson
abbrev pub first_place : Place
first_place = record { lesson = 0; part = 0; stretch = 0; step = 0; undoing = false }

-- no part, stretch or step is past the most that there may be
pub record IsPlace (place : Place) : Type 0 where
  pub part : place.part < most_parts
  pub stretch : place.stretch < most_stretches
  pub step : place.step < most_steps

abbrev pub half : Bool → ℕ
half false = 0
half true = 1

-- The number of a place in the order of a course, where each lesson has the most parts that there may be, each part the
-- most stretches, each stretch the most steps, and each step two questions: a move, and its `undo`.
abbrev pub number : Place → ℕ
number place =
    67200000 * place.lesson + 224000 * place.part + 4000 * place.stretch + 2 * place.step + half place.undoing

-- ---- what comes after a place

abbrev pub undo_place : Place → Place
undo_place place = record place { undoing = true }

abbrev pub next_step : Place → Place
next_step place = record place { step = place.step + 1; undoing = false }

abbrev pub next_stretch : Place → Place
next_stretch place = record place { stretch = place.stretch + 1; step = 0; undoing = false }

abbrev pub next_part : Place → Place
next_part place = record place { part = place.part + 1; stretch = 0; step = 0; undoing = false }

abbrev pub next_lesson : Place → Place
next_lesson place = record first_place { lesson = place.lesson + 1 }
