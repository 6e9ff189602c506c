-- A stretch plays the moves of its board's scene, each at its step.
use Rattle.std.proofs.Common.{◌≡◌, ℕ, zero, suc, ◌<◌, ◌≤◌, sym, ap, arith, rules, List, [], ◌∷◌, length, slice_get}
use Rattle.std.proofs.Common.{Some}
use Rattle.go_base.specs.declared.colours.Colour.{Colour}
use Rattle.gtp_check_course.specs.declared.boards.Board.{Board}
use Rattle.gtp_check_course.specs.declared.lessons.Lesson.{Lesson}
use Rattle.gtp_check_course.specs.declared.lessons.Lesson.TheVariants as lesson
use Rattle.gtp_check_course.specs.declared.stretches.Stretch.TheVariants as stretch
use Rattle.gtp_check_course.specs.Laws.{PlaysEachMove}
use Rattle.gtp_check_course.specs.Questions.{act_asked}
use Rattle.gtp_check_course.specs.Scenes.{Acts, acts_if, scene_number, scene_of, scenes_of}

-- no scene has more moves than a stretch of moves has steps
abbrev pub AreShort : List Acts → Type 0
AreShort [] = Unit {0}
AreShort (acts ∷ others) = (length acts ≤ 12) × AreShort others

short_at : (scenes : List Acts) (number : ℕ) → AreShort scenes → length (acts_if (slice_get scenes number)) ≤ 12
short_at [] number short = omega arith
short_at (acts ∷ others) zero short = short.0
short_at (acts ∷ others) (suc number) short = short_at others number short.1

-- what is at a place of a list is within it
pub within : (acts : Acts) (number : ℕ) (act : Colour × ℕ × ℕ) → slice_get acts number ≡ Some act → number < length acts
within [] number act is = absurd (cc)
within (first ∷ acts) zero act is = omega arith
within (first ∷ acts) (suc number) act is = let less = within acts number act is in omega arith

module _ (board : Board) (short : length board.scene.now ≤ 12) where
  pub plays : PlaysEachMove stretch.Moves board
  plays number act is = record {
    within = let less = within board.scene.now number act is in omega arith;
    is = λ draws game. ap (act_asked board) (sym is);
  }

-- a board of a part has no more moves either
pub short_board : (lesson : Lesson) (part : ℕ) (board : Board) → AreShort (scenes_of lesson)
    → board.scene.now ≡ scene_of lesson part → length board.scene.now ≤ 12
short_board lesson part board short is =
    let few = short_at (scenes_of lesson) (scene_number lesson part) short in omega (arith, ap length is)

pub ko_short : AreShort (scenes_of lesson.Ko)
ko_short = search rules
