-- In each part of the lesson of kos a move of the other colour is asked for right after the act, and again.
use Rattle.std.specs.Prelude.{◌==◌, ◌&&◌, ◌||◌, nat_le, if◌then◌else◌}
use Rattle.std.proofs.Common.{◌≡◌, ℕ, Bool, true, false, ◌+◌, ◌-◌, ◌*◌, ◌/◌, ◌%◌, ◌<◌, ◌≤◌, refl, sym, ap, arith, ◌∙◌}
use Rattle.std.proofs.Common.{subst}
use Rattle.std.proofs.Common.{Some, ◌⊎◌, inl, inr}
use Rattle.std.proofs.lemmas.Bool.Decides.{nat_tests}
use Rattle.std.proofs.lemmas.Nat.{div-mul-add, mod-mul-add, mul-add-lt}
use Rattle.go_base.specs.declared.colours.Colour.{Colour}
use Rattle.gtp_check_course.specs.declared.actions.Question.{Question}
use Rattle.gtp_check_course.specs.declared.actions.Question.TheVariants.{Nothing}
use Rattle.gtp_check_course.specs.declared.boards.Board.{Board}
use Rattle.gtp_check_course.specs.declared.stretches.Stretch.TheVariants as stretch
use Rattle.gtp_check_course.specs.Laws.{AsksAt, AsksForAnswer, AsksInTurn, EachKoIsAnswered, Fills}
use Rattle.gtp_check_course.specs.Laws.{Seals, StaysEmpty, fills}
use Rattle.gtp_check_course.specs.Questions.{act_asked, answer_asked, is_left_empty, last_of, sealed_asked}
use Rattle.gtp_check_course.specs.declared.lessons.Lesson.TheVariants as lesson
use Rattle.gtp_check_course.specs.Scenes.{scene_of}
use Rattle.gtp_check_course.proofs.AskedScenes.{probes_own}
use Rattle.gtp_check_course.proofs.SceneKos.{HasKo, has_ko}
use Rattle.gtp_check_course.proofs.ClearedBoard.{ko_short, plays, short_board}

-- ---- what stays empty

-- both numbers are these
are_both : (a b c d : ℕ) → ((a == c) && (b == d)) ≡ true → (a ≡ c) × (b ≡ d)
are_both a b c d is = (grind (arith, nat_tests, is), grind (arith, nat_tests, is))

-- one of four tests passes
one_of : (a b c d : Bool) → (((a || b) || c) || d) ≡ true → (a ≡ true) ⊎ ((b ≡ true) ⊎ ((c ≡ true) ⊎ (d ≡ true)))
one_of true b c d is = inl refl
one_of false true c d is = inr (inl refl)
one_of false false true d is = inr (inr (inl refl))
one_of false false false d is = inr (inr (inr is))

module _ (board : Board) (act : Colour × ℕ × ℕ) where
  at : (column row to_column to_row : ℕ) → ((column == to_column) && (row == to_row)) ≡ true
      → StaysEmpty board act to_column to_row → StaysEmpty board act column row
  at column row to_column to_row is stays =
      let both = are_both column row to_column to_row is in
      subst (λ (n : ℕ). StaysEmpty board act n row) (sym both.0)
      (subst (StaysEmpty board act to_column) (sym both.1) stays)

  stays_empty : (column row : ℕ) → is_left_empty board act column row ≡ true → StaysEmpty board act column row
  stays_empty column row is = by (one_of _ _ _ _ is)
    where
      by : (((column == act.1) && (row == act.2)) ≡ true)
          ⊎ ((((column == board.gaps.first.0) && (row == board.gaps.first.1)) ≡ true)
          ⊎ ((((column == board.gaps.second.0) && (row == board.gaps.second.1)) ≡ true)
          ⊎ (((column == board.size) && (row == board.size)) ≡ true)))
          → StaysEmpty board act column row
      by (inl one) = at column row act.1 act.2 one StaysEmpty.acts
      by (inr (inl one)) = at column row board.gaps.first.0 board.gaps.first.1 one StaysEmpty.first
      by (inr (inr (inl one))) = at column row board.gaps.second.0 board.gaps.second.1 one StaysEmpty.second
      by (inr (inr (inr one))) = at column row board.size board.size one StaysEmpty.corner

  left_empty : (column row : ℕ) → StaysEmpty board act column row → is_left_empty board act column row ≡ true
  left_empty column row StaysEmpty.acts = grind (arith, nat_tests)
  left_empty column row StaysEmpty.first = grind (arith, nat_tests)
  left_empty column row StaysEmpty.second = grind (arith, nat_tests)
  left_empty column row StaysEmpty.corner = grind (arith, nat_tests)

  -- ---- what fills the board

  -- the step whose tests come out so
  step_asks : (step : ℕ) (past empty : Bool) → nat_le board.size (step / board.size) ≡ past
      → is_left_empty board act (step % board.size + 1) (step / board.size + 1) ≡ empty
      → sealed_asked step board (Some act)
      ≡ (if past || empty then Nothing else fills board act (step % board.size + 1) (step / board.size + 1))
  step_asks step past empty one other = rw (one, other) refl

  module _ (is : last_of board.scene.now ≡ Some act) where
    asked_at : (step : ℕ) (question : Question) → step < 625 → sealed_asked step board (Some act) ≡ question
        → AsksAt stretch.Sealed board step question
    asked_at step question few same = record {
      within = few;
      is = λ draws game. sym (ap (sealed_asked step board) is ∙ same);
    }

    fills_step : (step : ℕ) → step < 625 → Fills stretch.Sealed board act step
    fills_step step few =
        by (nat_le board.size (step / board.size)) refl
        (is_left_empty board act (step % board.size + 1) (step / board.size + 1)) refl
      where
        by : (past : Bool) → nat_le board.size (step / board.size) ≡ past → (empty : Bool)
            → is_left_empty board act (step % board.size + 1) (step / board.size + 1) ≡ empty
            → Fills stretch.Sealed board act step
        by true one empty other = Fills.nothing (asked_at step Nothing few (step_asks step true empty one other))
        by false one true other = Fills.nothing (asked_at step Nothing few (step_asks step false true one other))
        by false one false other =
            Fills.plays (step % board.size + 1) (step / board.size + 1)
            (λ stays. absurd (cc (left_empty (step % board.size + 1) (step / board.size + 1) stays, other)))
            (asked_at step _ few (step_asks step false false one other))

    fills_crossing : board.size ≤ 25 → (column row : ℕ) → 1 ≤ column → column ≤ board.size → 1 ≤ row
        → row ≤ board.size → ¬ StaysEmpty board act column row
        → (step : ℕ) × AsksAt stretch.Sealed board step (fills board act column row)
    fills_crossing most column row left right bottom top empty = (step, asked_at step _ few same)
      where
        step : ℕ
        step = (row - 1) * board.size + (column - 1)

        within : step < board.size * board.size
        within = mul-add-lt (row - 1) board.size (column - 1) board.size (omega (arith, bottom, top))
            (omega (arith, left, right))

        few : step < 625
        few = by board.size most within
          where
            by : (size : ℕ) → size ≤ 25 → step < size * size → step < 625
            by size few less = let square : size * size ≤ 625 = mul-mono size few in omega (arith, less, square)
              where
                mul-mono : (n : ℕ) → n ≤ 25 → n * n ≤ 625
                mul-mono n less = search arith

        column_is : step % board.size + 1 ≡ column
        column_is =
            omega (arith, mod-mul-add (row - 1) board.size (column - 1) (omega (arith, left, right)), left)

        row_is : step / board.size + 1 ≡ row
        row_is =
            omega (arith, div-mul-add (row - 1) board.size (column - 1) (omega (arith, left, right)), bottom)

        past : nat_le board.size (step / board.size) ≡ false
        past = grind (arith, nat_tests, row_is, top)

        stays : (is_empty : Bool) → is_left_empty board act column row ≡ is_empty → is_empty ≡ false
        stays true one = absurd (empty (stays_empty column row one))
        stays false one = refl

        not_empty : is_left_empty board act (step % board.size + 1) (step / board.size + 1) ≡ false
        not_empty =
            ap (λ (n : ℕ). is_left_empty board act n (step / board.size + 1)) column_is
            ∙ ap (is_left_empty board act column) row_is ∙ stays _ refl

        same : sealed_asked step board (Some act) ≡ fills board act column row
        same = step_asks step false false past not_empty
            ∙ ap (λ (n : ℕ). fills board act n (step / board.size + 1)) column_is
            ∙ ap (fills board act column) row_is

    seals : board.size ≤ 25 → Seals stretch.Sealed board act
    seals most = record { all = fills_crossing most; only = fills_step }

-- ---- the ten stretches

asks_answer : (part : ℕ) (board : Board) (act : Colour × ℕ × ℕ) → board.scene.now ≡ scene_of lesson.Ko part
    → board.size ≤ 25 → last_of board.scene.now ≡ Some act → AsksForAnswer lesson.Ko part board act
asks_answer part board act scene most is = record {
  number = 44;
  clears = AsksInTurn.next stretch.Clear refl (record { within = omega arith; is = λ draws game. refl })
      (AsksInTurn.next stretch.Given refl (record { within = omega arith; is = λ draws game. refl }) AsksInTurn.none);
  moves = stretch.Moves;
  has_moves = refl;
  plays_each = plays board (short_board lesson.Ko part board ko_short scene);
  takes_back = AsksInTurn.next stretch.Undo refl (record { within = omega arith; is = λ draws game. refl })
      AsksInTurn.none;
  seal = stretch.Sealed;
  has_seal = refl;
  seals = seals board act is most;
  acts = stretch.Act;
  has_acts = refl;
  alone = refl;
  plays = record { within = omega arith; is = λ draws game. sym (ap (act_asked board) is) };
  answers = AsksInTurn.next stretch.Answer refl
      (record { within = omega arith; is = λ draws game. sym (ap (answer_asked board) is) })
      (AsksInTurn.next stretch.Undo refl (record { within = omega arith; is = λ draws game. refl }) AsksInTurn.none);
  own = stretch.Own;
  has_own = refl;
  probes_each = probes_own board (short_board lesson.Ko part board ko_short scene);
  answers_again = AsksInTurn.next stretch.Answer refl
      (record { within = omega arith; is = λ draws game. sym (ap (answer_asked board) is) }) AsksInTurn.none;
}

pub each_ko : EachKoIsAnswered
each_ko part board less scene least most =
    let ko : HasKo board.scene.now = subst HasKo (sym scene) (has_ko part less) in
    (ko.act, ko.last, ko.is_ko, asks_answer part board ko.act scene most ko.last)
