-- What each part of a lesson is asked on.
use Rattle.std.specs.Prelude.{◌≡◌, ℕ, ◌+◌, ◌-◌, ◌/◌, ◌%◌, nat_le, nat_lt, ◌&&◌, if◌then◌else◌, ℤ, pos}
use Rattle.std.specs.Prelude.{max, slice_index_or, Option, None, Some, is_none}
use Rattle.go_base.specs.Size.{most_size}
use Rattle.gtp_check_course.specs.declared.lessons.Lesson.{Lesson}
use Rattle.gtp_check_course.specs.declared.lessons.Lesson.TheVariants.{Start, Placed, Sizes, Handicaps, Komi, Drawn}
use Rattle.gtp_check_course.specs.declared.lessons.Lesson.TheVariants.{Record, Genmoves, Games, Restarts}
use Rattle.gtp_check_course.specs.declared.lessons.Lesson.TheVariants.{Ko, Captures, Suicide, Joining}
use Rattle.gtp_check_course.specs.declared.boards.Board.{Board}
use Rattle.gtp_check_course.specs.declared.boards.TheConstants.{DRAWN, GAMES, GENMOVES, HANDICAPPED, INEXACT_KOMIS}
use Rattle.gtp_check_course.specs.declared.boards.TheConstants.{KOMIS, RECORD}
use Rattle.gtp_check_course.specs.declared.scenes.TheConstants.{FREE_WAYS, WAYS}
use Rattle.gtp_check_course.specs.Scenes.{gaps_of, has_handicap, way_of, scene_of}

-- The size of the board of a part's scene. With a handicap it is at least 9: there no stone of the handicap is in the
-- scene's corner of five lines.
abbrev pub lines_of_scene : Lesson → ℕ → ℕ → ℕ
lines_of_scene lesson part scene_size = if has_handicap lesson part then max scene_size 9 else scene_size

-- the size of a part: before the part of this number that of scenes, and from then on one that has handicaps
abbrev pub lines_from : ℕ → ℕ → ℕ → ℕ
lines_from first part scene_size =
    if nat_lt part first then scene_size else slice_index_or HANDICAPPED (part - first) scene_size

-- The size that a part asks for, where scenes are on boards of this size. After the sizes of a table comes that of
-- scenes.
abbrev pub lines_of : Lesson → ℕ → ℕ → ℕ
lines_of Sizes part scene_size = part + 1
lines_of Handicaps part scene_size = part / 12 + 1
lines_of Placed part scene_size = lines_from 1 part scene_size
lines_of Komi part scene_size = lines_from 16 part scene_size
lines_of Drawn part scene_size = slice_index_or DRAWN part scene_size
lines_of Record part scene_size = slice_index_or RECORD part scene_size
lines_of Genmoves part scene_size = slice_index_or GENMOVES part scene_size
lines_of Games part scene_size = slice_index_or GAMES part scene_size
lines_of Restarts part scene_size = slice_index_or GAMES part scene_size
lines_of Ko part scene_size = lines_of_scene Ko part scene_size
lines_of Captures part scene_size = lines_of_scene Captures part scene_size
lines_of Suicide part scene_size = lines_of_scene Suicide part scene_size
lines_of Joining part scene_size = lines_of_scene Joining part scene_size
lines_of _ part scene_size = scene_size

-- this size, or the other where it is none
abbrev pub size_or : ℕ → ℕ → ℕ
size_or lines other_size = if nat_le 1 lines && nat_le lines most_size then lines else other_size

-- the komi of this number, in half points
abbrev pub komi_of : ℕ → ℤ
komi_of number = slice_index_or KOMIS (number % 16) (pos 0)

-- a komi that no float of 32 bits represents
abbrev pub inexact_komi_of : ℕ → ℤ
inexact_komi_of part = slice_index_or INEXACT_KOMIS (part % 4) (pos 0)

-- how many handicap stones a part asks for: each number from 0 to 11 on each size, and elsewhere 2, 3 or 4
abbrev pub stones_of : Lesson → ℕ → ℕ
stones_of Handicaps part = part % 12
stones_of _ part = 2 + part % 3

-- In which of the ways a part is turned. Those of the start are not: so what they ask in chunks, or with colours in
-- full, was asked before in the usual form. After a handicap it is one of the ways that keep away from its stones.
abbrev pub turning_of : Lesson → ℕ → ℕ
turning_of Start part = 0
turning_of lesson part =
    if has_handicap lesson part then slice_index_or FREE_WAYS (part % 4) 0
    else part % WAYS

-- the size of the boards of scenes: the one that is known, or the smallest
abbrev pub scene_size_or_least : Option ℕ → ℕ
scene_size_or_least None = 5
scene_size_or_least (Some size) = size

-- what a part is asked on, where this size of scenes is known, if any
pub record IsBoard (lesson : Lesson) (part : ℕ) (known : Option ℕ) (board : Board) : Type 0 where
  pub size : board.size ≡ size_or (lines_of lesson part (scene_size_or_least known)) (scene_size_or_least known)
  pub other_size : board.other_size ≡ scene_size_or_least known
  pub is_sought : board.is_sought ≡ is_none known
  pub komi : board.komi ≡ komi_of part
  pub other_komi : board.other_komi ≡ komi_of (part + 2)
  pub inexact_komi : board.inexact_komi ≡ inexact_komi_of part
  pub stones : board.stones ≡ stones_of lesson part
  pub scene : board.scene.now ≡ scene_of lesson part
  pub gaps : board.gaps ≡ gaps_of lesson part
  pub way : board.way ≡ way_of (turning_of lesson part)
  pub has_handicap : board.has_handicap ≡ has_handicap lesson part
