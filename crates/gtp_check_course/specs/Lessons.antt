-- What the lessons of a course ask: how many parts each has, the stretches of each part, and whether its lines are sent
-- in chunks. How a user names them.
use Rattle.std.specs.Prelude.{ℕ, ◌==◌, nat_lt, Bool, false, if◌then◌else◌, List, [], map, slice_get, unwrap_or}
use Rattle.gtp_check_course.specs.declared.lessons.Lesson.{Lesson}
use Rattle.gtp_check_course.specs.declared.lessons.Lesson.TheVariants.{Start, Placed, Errors, Sizes, Ko, Captures}
use Rattle.gtp_check_course.specs.declared.lessons.Lesson.TheVariants.{Suicide, Joining, Handicaps, Komi, Drawn, Record}
use Rattle.gtp_check_course.specs.declared.lessons.Lesson.TheVariants.{Genmoves}
use Rattle.gtp_check_course.specs.declared.lessons.Lesson.TheVariants.{Games, Restarts}
use Rattle.gtp_check_course.specs.declared.stretches.Stretch.{Stretch}
use Rattle.gtp_check_course.specs.declared.errors.TheConstants.{REQUIRED, UNKNOWN, NO_NUMBERS, NO_MOVES}
use Rattle.gtp_check_course.specs.declared.games.TheConstants.{RECORD, GENMOVES, GAMES, RESTARTS}
use Rattle.gtp_check_course.specs.declared.lessons.TheConstants.{LESSON_NAMES, LESSONS}
use Rattle.gtp_check_course.specs.declared.tables.TheConstants.{SCENE, KO, REFUSED, START, PIECES, IN_FULL, LIST, SIZES}
use Rattle.gtp_check_course.specs.declared.tables.TheConstants.{PLACED, PLACED_WITH_HANDICAP, HANDICAPS, KOMI, KOMI_OF_HANDICAPS, DRAWN}

-- all lessons, in the order of a course
abbrev pub all_lessons : List Lesson
all_lessons = LESSONS

-- its number among all lessons, counted from 0
abbrev pub number_of : Lesson → ℕ
number_of Start = 0
number_of Placed = 1
number_of Errors = 2
number_of Sizes = 3
number_of Ko = 4
number_of Captures = 5
number_of Suicide = 6
number_of Joining = 7
number_of Handicaps = 8
number_of Komi = 9
number_of Drawn = 10
number_of Record = 11
number_of Genmoves = 12
number_of Games = 13
number_of Restarts = 14

-- the name of a lesson
abbrev pub name_of : Lesson → List ℕ
name_of lesson = unwrap_or (slice_get (map (λ name. name.now) LESSON_NAMES) (number_of lesson)) []

-- the parts: four of the start, the second in chunks; four; four; each size; each scene in its sixteen ways, and in four
-- of them after a handicap; each size with each number of handicap stones up to 11; and so on
abbrev pub parts_of : Lesson → ℕ
parts_of Start = 4
parts_of Placed = 4
parts_of Errors = 4
parts_of Sizes = 25
parts_of Ko = 80
parts_of Captures = 200
parts_of Suicide = 100
parts_of Joining = 80
parts_of Handicaps = 300
parts_of Komi = 19
parts_of Drawn = 11
parts_of Record = 3
parts_of Genmoves = 9
parts_of Games = 5
parts_of Restarts = 5

-- how many of them, the first ones, have even games; the games of the others begin with a handicap
abbrev pub even_parts : Lesson → ℕ
even_parts Ko = 64
even_parts Captures = 160
even_parts Suicide = 80
even_parts Joining = 64
even_parts lesson = parts_of lesson

-- the stretches of a part of the start
abbrev pub start_parts : ℕ → List Stretch
start_parts part =
    if part == 1 then PIECES
    else if part == 2 then IN_FULL
    else if part == 3 then LIST
    else START

-- the stretches of a part about the engine's own moves: one on an empty board, and three sizes with a handicap
abbrev pub placed_parts : ℕ → List Stretch
placed_parts part = if part == 0 then PLACED else PLACED_WITH_HANDICAP

-- the stretches of a part about komi: sixteen komis, and after them three sizes with a handicap
abbrev pub komi_parts : ℕ → List Stretch
komi_parts part = if nat_lt part 16 then KOMI else KOMI_OF_HANDICAPS

-- the stretches of a part about errors
abbrev pub errors_parts : ℕ → List Stretch
errors_parts part =
    if part == 1 then UNKNOWN
    else if part == 2 then NO_NUMBERS
    else if part == 3 then NO_MOVES
    else REQUIRED

-- the stretches of a part, one after the other
abbrev pub stretches_of : Lesson → ℕ → List Stretch
stretches_of Start part = start_parts part
stretches_of Placed part = placed_parts part
stretches_of Errors part = errors_parts part
stretches_of Sizes part = SIZES
stretches_of Ko part = KO
stretches_of Captures part = SCENE
stretches_of Suicide part = REFUSED
stretches_of Joining part = SCENE
stretches_of Handicaps part = HANDICAPS
stretches_of Komi part = komi_parts part
stretches_of Drawn part = DRAWN
stretches_of Record part = RECORD
stretches_of Genmoves part = GENMOVES
stretches_of Games part = GAMES
stretches_of Restarts part = RESTARTS

-- Whether the lines of a part are sent in chunks: the line of each of its commands comes in two. (The standard's topic
-- command structure: a command ends with a newline. So a right engine waits for that, however the bytes come.)
abbrev pub is_in_pieces : Lesson → ℕ → Bool
is_in_pieces Start part = part == 1
is_in_pieces _ part = false
