-- Each scene is asked in an even game, and in one with a handicap.
use Rattle.std.specs.Prelude.{◌==◌, nat_le, if◌then◌else◌}
use Rattle.std.proofs.Common.{◌≡◌, ℕ, zero, suc, Bool, true, false, ◌+◌, ◌-◌, ◌*◌, ◌/◌, ◌<◌, ◌≤◌, refl, sym, ap, arith}
use Rattle.std.proofs.Common.{◌∙◌, max, rules, subst, List, [], ◌∷◌, length, slice_get, Option, Some}
use Rattle.std.proofs.lemmas.Bool.Decides.{nat_tests}
use Rattle.std.proofs.lemmas.Nat.{div-mul-add, mod-mul-add}
use Rattle.go_base.specs.Handicap.{AllowsHandicap}
use Rattle.go_base.specs.declared.colours.Colour.{Colour}
use Rattle.go_base.specs.declared.colours.Colour.TheVariants.{Black, White}
use Rattle.gtp_check_course.specs.declared.boards.Board.{Board}
use Rattle.gtp_check_course.specs.declared.lessons.Lesson.{Lesson}
use Rattle.gtp_check_course.specs.declared.lessons.Lesson.TheVariants as lesson
use Rattle.gtp_check_course.specs.declared.stretches.Stretch.TheVariants as stretch
use Rattle.gtp_check_course.specs.Boards.{IsBoard, lines_of, lines_of_scene, scene_size_or_least, size_or}
use Rattle.gtp_check_course.specs.Laws.{AsksInTurn, AsksScene, EachRuleIsAskedInBoth, HasPart, IsAskedInBoth}
use Rattle.gtp_check_course.specs.Laws.{ProbesEachMove}
use Rattle.gtp_check_course.specs.Lessons.{even_parts, parts_of, stretches_of}
use Rattle.gtp_check_course.specs.Questions.{colour_of, given_asked, own_asked, probes}
use Rattle.gtp_check_course.specs.Scenes.{Acts, acts_if, has_handicap, scene_number, scenes_of, turned}
use Rattle.gtp_check_course.proofs.ClearedBoard.{AreShort, plays, short_board, within}

-- ---- the points of a scene's moves

colour_is : (number rest : ℕ) → rest < 2
    → colour_of (number * 2 + rest) ≡ (if rest == 0 then Black else White)
colour_is number rest less = ap (λ (m : ℕ). if m == 0 then Black else White) (mod-mul-add number 2 rest less)

own_is : (board : Board) (number rest : ℕ) (act : Colour × ℕ × ℕ) → rest < 2
    → slice_get board.scene.now number ≡ Some act
    → own_asked board (number * 2 + rest) (slice_get board.scene.now ((number * 2 + rest) / 2))
    ≡ probes (if rest == 0 then Black else White) (turned board.way act.1 act.2 board.size)
own_is board number rest act less is =
    ap (λ (n : ℕ). own_asked board (number * 2 + rest) (slice_get board.scene.now n))
    (div-mul-add number 2 rest less)
    ∙ ap (own_asked board (number * 2 + rest)) is
    ∙ ap (λ (c : Colour). probes c (turned board.way act.1 act.2 board.size)) (colour_is number rest less)

pub probes_own : (board : Board) → length board.scene.now ≤ 12 → ProbesEachMove stretch.Own board
probes_own board short number act is =
    let less : number < length board.scene.now = within board.scene.now number act is in (
      record { within = omega (arith, less, short); is = λ draws game. sym black },
      record { within = omega (arith, less, short); is = λ draws game. sym white },
    )
  where
    white : own_asked board (number * 2 + 1) (slice_get board.scene.now ((number * 2 + 1) / 2))
        ≡ probes White (turned board.way act.1 act.2 board.size)
    white = own_is board number 1 act (omega arith) is

    black : own_asked board (number * 2) (slice_get board.scene.now (number * 2 / 2))
        ≡ probes Black (turned board.way act.1 act.2 board.size)
    black =
        let zero_more : number * 2 + 0 ≡ number * 2 = omega arith in
        subst (λ (n : ℕ). own_asked board n (slice_get board.scene.now (n / 2))
        ≡ probes Black (turned board.way act.1 act.2 board.size)) zero_more (own_is board number 0 act (omega arith) is)

-- ---- a part

-- the stretches with which each part of scenes begins
record BeginsSo (lesson : Lesson) : Type 0 where
  clears : (part : ℕ) → slice_get (stretches_of lesson part) 5 ≡ Some stretch.Clear
  gives : (part : ℕ) → slice_get (stretches_of lesson part) 6 ≡ Some stretch.Given
  moves : (part : ℕ) → slice_get (stretches_of lesson part) 7 ≡ Some stretch.Moves
  owns : (part : ℕ) → slice_get (stretches_of lesson part) 8 ≡ Some stretch.Own
  short : AreShort (scenes_of lesson)

asks_scene : (lesson : Lesson) (part : ℕ) (Allows : ℕ → Type 0) (has : Bool) (known : Option ℕ) (board : Board)
    → BeginsSo lesson → has_handicap lesson part ≡ has → IsBoard lesson part known board → Allows board.size
    → AsksScene lesson part (given_asked has) Allows board
asks_scene lesson part Allows has known board begins same is allowed = record {
  allowed = allowed;
  number = 5;
  clears = AsksInTurn.next stretch.Clear (begins.clears part) (record { within = omega arith; is = λ draws game. refl })
      (AsksInTurn.next stretch.Given (begins.gives part)
      (record { within = omega arith; is = λ draws game. sym (ap given_asked (is.has_handicap ∙ same)) })
      AsksInTurn.none);
  moves = stretch.Moves;
  has_moves = begins.moves part;
  plays_each = plays board (short_board lesson part board begins.short is.scene);
  own = stretch.Own;
  has_own = begins.owns part;
  probes_each = probes_own board (short_board lesson part board begins.short is.scene);
}

-- ---- the parts of a scene

-- so many scenes a lesson has, and by these its parts are counted; the sizes of their boards
record Counts (lesson : Lesson) (count : ℕ) : Type 0 where
  scenes : length (scenes_of lesson) ≡ count
  even : even_parts lesson ≡ count * 16
  all : parts_of lesson ≡ count * 20
  lines : (part size : ℕ) → lines_of lesson part size ≡ lines_of_scene lesson part size

div_exact : (n by : ℕ) → 0 < by → n * by / by ≡ n
div_exact n by some =
    let same : n * by ≡ n * by + 0 = omega arith in
    ap (λ (m : ℕ). m / by) same ∙ div-mul-add n by 0 some

within_scenes : (scenes : List Acts) (number : ℕ) (acts : Acts) → slice_get scenes number ≡ Some acts
    → number < length scenes
within_scenes [] number acts is = absurd (cc)
within_scenes (first ∷ scenes) zero acts is = omega arith
within_scenes (first ∷ scenes) (suc number) acts is =
    let less = within_scenes scenes number acts is in omega arith

-- the part of a scene in an even game, and with a handicap
abbrev even_part : ℕ → ℕ
even_part number = number * 16

abbrev given_part : Lesson → ℕ → ℕ
given_part lesson number = even_parts lesson + number * 4

module _ (lesson : Lesson) (count number : ℕ) (counts : Counts lesson count) (less : number < count) where
  is_even : nat_le (even_parts lesson) (even_part number) ≡ false
  is_even = let even = counts.even in grind (arith, nat_tests, even, less)

  even_number : scene_number lesson (even_part number) ≡ number
  even_number =
      ap (λ (b : Bool). if b then (even_part number - even_parts lesson) / 4 else even_part number / 16) is_even
      ∙ div_exact number 16 (omega arith)

  is_given : nat_le (even_parts lesson) (given_part lesson number) ≡ true
  is_given = by (even_parts lesson) number
    where
      by : (n k : ℕ) → nat_le n (n + k * 4) ≡ true
      by n k = grind (arith, nat_tests)

  given_number : scene_number lesson (given_part lesson number) ≡ number
  given_number =
      ap (λ (b : Bool). if b then (given_part lesson number - even_parts lesson) / 4 else given_part lesson number / 16)
      is_given
      ∙ ap (λ (n : ℕ). n / 4) (rest (even_parts lesson) number) ∙ div_exact number 4 (omega arith)
    where
      rest : (n k : ℕ) → n + k * 4 - n ≡ k * 4
      rest n k = omega arith

-- a board of a part with a handicap is large enough
large : (size : ℕ) → 9 ≤ size_or (max size 9) size
large size = grind (arith, nat_tests)

-- nine lines and more allow two stones
allows : (size : ℕ) → 9 ≤ size → AllowsHandicap size 2
allows size large = grind arith

of_number : (lesson : Lesson) (number number' : ℕ) (acts : Acts) → number' ≡ number
    → slice_get (scenes_of lesson) number ≡ Some acts → acts_if (slice_get (scenes_of lesson) number') ≡ acts
of_number lesson number number' acts same is =
    ap (λ (n : ℕ). acts_if (slice_get (scenes_of lesson) n)) same ∙ ap acts_if is

in_both : (lesson : Lesson) (count : ℕ) → BeginsSo lesson → Counts lesson count → IsAskedInBoth lesson
in_both lesson count begins counts number acts is = (even, given)
  where
    less : number < count
    less = let few = within_scenes (scenes_of lesson) number acts is in omega (arith, few, counts.scenes)

    even : HasPart lesson acts (given_asked false) (λ size. Unit {0})
    even = record {
      part = even_part number;
      within = omega (arith, counts.all, less);
      is_scene = of_number lesson number _ acts (even_number lesson count number counts less) is;
      asks_scene = λ known board is_board. asks_scene lesson (even_part number) (λ size. Unit {0}) false known board
          begins (is_even lesson count number counts less) is_board tt;
    }

    allowed : (known : Option ℕ) (board : Board) → IsBoard lesson (given_part lesson number) known board
        → AllowsHandicap board.size 2
    allowed known board is_board =
        let size = scene_size_or_least known in
        let lines = counts.lines (given_part lesson number) size
        ∙ ap (λ (b : Bool). if b then max size 9 else size) (is_given lesson count number counts less) in
        let same = is_board.size ∙ ap (λ (n : ℕ). size_or n size) lines in
        allows board.size (subst (λ (n : ℕ). 9 ≤ n) (sym same) (large size))

    given : HasPart lesson acts (given_asked true) (λ size. AllowsHandicap size 2)
    given = record {
      part = given_part lesson number;
      within = omega (arith, counts.all, counts.even, less);
      is_scene = of_number lesson number _ acts (given_number lesson count number counts less) is;
      asks_scene = λ known board is_board. asks_scene lesson (given_part lesson number)
          (λ size. AllowsHandicap size 2) true known board begins (is_given lesson count number counts less) is_board
          (allowed known board is_board);
    }

-- ---- the lessons

begins_ko : BeginsSo lesson.Ko
begins_ko = record {
  clears = λ part. refl;
  gives = λ part. refl;
  moves = λ part. refl;
  owns = λ part. refl;
  short = search rules;
}

begins_captures : BeginsSo lesson.Captures
begins_captures = record {
  clears = λ part. refl;
  gives = λ part. refl;
  moves = λ part. refl;
  owns = λ part. refl;
  short = search rules;
}

begins_suicide : BeginsSo lesson.Suicide
begins_suicide = record {
  clears = λ part. refl;
  gives = λ part. refl;
  moves = λ part. refl;
  owns = λ part. refl;
  short = search rules;
}

begins_joining : BeginsSo lesson.Joining
begins_joining = record {
  clears = λ part. refl;
  gives = λ part. refl;
  moves = λ part. refl;
  owns = λ part. refl;
  short = search rules;
}

pub each_in_both : EachRuleIsAskedInBoth
each_in_both = record {
  ko = in_both lesson.Ko 4 begins_ko (record { scenes = refl; even = refl; all = refl; lines = λ part size. refl });
  captures = in_both lesson.Captures 10 begins_captures
      (record { scenes = refl; even = refl; all = refl; lines = λ part size. refl });
  suicide = in_both lesson.Suicide 5 begins_suicide
      (record { scenes = refl; even = refl; all = refl; lines = λ part size. refl });
  joining = in_both lesson.Joining 4 begins_joining
      (record { scenes = refl; even = refl; all = refl; lines = λ part size. refl });
}
