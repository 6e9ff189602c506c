-- Loops over all lessons that keep some of them.
use Rattle.std.proofs.Common.{◌≡◌, ◌∙◌, ◌++◌, ◌∷◌, ◌+◌, ◌<◌, ◌≤◌, ℕ, Bool, List, [], ap, sym, arith, length, take}
use Rattle.std.proofs.Common.{if◌then◌else◌, slice_index_or}
use Rattle.std.specs.Prelude.{filter}
use Rattle.std.proofs.lemmas.List.Elements.{filter_more}
use Rattle.arrayvec.specs.ArrayVec.{ArrayVec, array_vec_len}
use Rattle.gtp_check_course.specs.Lessons.{all_lessons}
use Rattle.gtp_check_course.specs.declared.lessons.Lesson.{Lesson}

-- so many lessons were looked at, and those of them are kept
pub record AreKept (test : Lesson → Bool) (number : ℕ) (list : ArrayVec Lesson) : Type 0 where
  pub kept : list.items ≡ filter test (take number all_lessons)
  pub few : array_vec_len list ≤ number

-- one more was looked at
pub AreKept-more : (test : Lesson → Bool) (number : ℕ) (d : Lesson) (before after : ArrayVec Lesson) (is_kept : Bool)
    → number < length all_lessons → AreKept test number before
    → is_kept ≡ test (slice_index_or all_lessons number d)
    → after.items ≡ before.items ++ (if is_kept then slice_index_or all_lessons number d ∷ [] else [])
    → array_vec_len after ≤ array_vec_len before + 1 → AreKept test (number + 1) after
AreKept-more test number d before after is_kept inside so_far is more longer =
    let lesson = slice_index_or all_lessons number d in
    record {
      kept = more
          ∙ ap (λ (b : Bool). before.items ++ (if b then lesson ∷ [] else [])) is
          ∙ ap (λ (l : List Lesson). l ++ (if test lesson then lesson ∷ [] else [])) so_far.kept
          ∙ sym (filter_more test all_lessons number d inside);
      few = omega (arith, so_far.few, longer);
    }

-- all were looked at
pub AreKept-all : (test : Lesson → Bool) (number : ℕ) (kept : ArrayVec Lesson) → AreKept test number kept
    → number ≡ 15 → kept.items ≡ filter test all_lessons
AreKept-all test number kept are whole =
    are.kept ∙ ap (λ (n : ℕ). filter test (take n all_lessons)) whole
