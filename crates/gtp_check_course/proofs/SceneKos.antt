-- Each scene of the lesson of kos is a ko.
use Rattle.std.specs.Prelude.{nat_le, if◌then◌else◌}
use Rattle.std.proofs.Common.{◌≡◌, ℕ, zero, suc, Bool, true, false, ◌-◌, ◌/◌, ◌<◌, refl, ap, arith, slice_get}
use Rattle.std.proofs.Common.{Some}
use Rattle.std.proofs.lemmas.Bool.Decides.{nat_tests}
use Rattle.std.proofs.lemmas.Nat.{div_below}
use Rattle.go_base.specs.declared.colours.Colour.{Colour}
use Rattle.go_base.specs.declared.colours.Colour.TheVariants.{White}
use Rattle.gtp_check_course.specs.declared.lessons.Lesson.TheVariants as lesson
use Rattle.gtp_check_course.specs.Kos.{IsKo}
use Rattle.gtp_check_course.specs.Lessons.{parts_of}
use Rattle.gtp_check_course.specs.Questions.{last_of}
use Rattle.gtp_check_course.specs.Scenes.{Acts, acts_if, scene_number, scene_of, scenes_of}

-- the last move of a scene takes a ko
pub record HasKo (acts : Acts) : Type 0 where
  pub act : Colour × ℕ × ℕ
  pub last : last_of acts ≡ Some act
  pub is_ko : IsKo acts act

ko_at : (number : ℕ) → number < 4 → HasKo (acts_if (slice_get (scenes_of lesson.Ko) number))
ko_at zero less = record {
  act = (White, 1, 1);
  last = refl;
  is_ko = record {
    taken = (2, 1);
    beside = refl;
    inner = refl;
    alone = refl;
    one_taken = refl;
    others_free = refl;
  };
}
ko_at (suc zero) less = record {
  act = (White, 2, 1);
  last = refl;
  is_ko = record {
    taken = (1, 1);
    beside = refl;
    inner = refl;
    alone = refl;
    one_taken = refl;
    others_free = refl;
  };
}
ko_at (suc (suc zero)) less = record {
  act = (White, 3, 1);
  last = refl;
  is_ko = record {
    taken = (4, 1);
    beside = refl;
    inner = refl;
    alone = refl;
    one_taken = refl;
    others_free = refl;
  };
}
ko_at (suc (suc (suc zero))) less = record {
  act = (White, 3, 3);
  last = refl;
  is_ko = record {
    taken = (4, 3);
    beside = refl;
    inner = refl;
    alone = refl;
    one_taken = refl;
    others_free = refl;
  };
}
ko_at (suc (suc (suc (suc number)))) less = absurd (omega (arith, less))

few_scenes : (part : ℕ) → part < parts_of lesson.Ko → scene_number lesson.Ko part < 4
few_scenes part less = by (nat_le 64 part) refl
  where
    by : (b : Bool) → nat_le 64 part ≡ b → scene_number lesson.Ko part < 4
    by true is =
        let same : scene_number lesson.Ko part ≡ (part - 64) / 4 =
        ap (λ (b : Bool). if b then (part - 64) / 4 else part / 16) is in
        let few : (part - 64) / 4 < 4 = div_below (part - 64) 4 4 (omega arith) (omega (arith, less)) in
        omega (arith, same, few)
    by false is =
        let same : scene_number lesson.Ko part ≡ part / 16 =
        ap (λ (b : Bool). if b then (part - 64) / 4 else part / 16) is in
        let below : part < 64 = grind (arith, nat_tests, is) in
        let few : part / 16 < 4 = div_below part 16 4 (omega arith) (omega (arith, below)) in
        omega (arith, same, few)

pub has_ko : (part : ℕ) → part < parts_of lesson.Ko → HasKo (scene_of lesson.Ko part)
has_ko part less = ko_at (scene_number lesson.Ko part) (few_scenes part less)
