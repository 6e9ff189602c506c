-- What the status of a check says.
use Rattle.std.proofs.Common.{◌≡◌, ◌<◌, ◌≤◌, ◌==◌, ℕ, Bool, true, false, List, refl, nat_lt}
use Rattle.std.proofs.Common.{if◌then◌else◌, length-drop}
use Rattle.std.proofs.lemmas.Bool.Decides.{nat_tests}
use Rattle.std.proofs.Common.{arith, length, drop, min}
use Rattle.std.specs.Prelude.{◌↔◌}
use Rattle.std.proofs.lemmas.Bool.{and_parts, and_from, eq-eqb, eqb-true}
use Rattle.std.proofs.lemmas.List.Sums.{AllPass-from_list_all, list_all-from_AllPass}
use Rattle.gtp_check_course.specs.declared.lessons.Lesson.{Lesson}
use Rattle.cli.specs.Status.{done}
use Rattle.gtp_check_course.specs.declared.plan.Plan.{Plan}
use Rattle.gtp_check_app.specs.Checks.{missed_from, status_in}
use Rattle.gtp_check_app.specs.Laws.{IsPass}
use Rattle.gtp_check_talk.specs.Among.{is_among}
use Rattle.gtp_check_app.specs.Status.{is_earned, not_earned, something_found}
use Rattle.gtp_check_app.specs.Turns.{State}

-- ---- the status, by the complaints and whether a pass is earned

found_any : (complaints : ℕ) → nat_lt 0 complaints ≡ true → 0 < complaints
found_any complaints is = grind (arith, nat_tests)

found_none : (complaints : ℕ) → nat_lt 0 complaints ≡ false → complaints ≡ 0
found_none complaints is = grind (arith, nat_tests)

-- the status where it is known whether something was found
status_by : Bool → Bool → ℕ
status_by found earned = if found then something_found else (if earned then done else not_earned)

some : (complaints : ℕ) (found earned : Bool) → nat_lt 0 complaints ≡ found
    → (status_by found earned ≡ something_found) ↔ (0 < complaints)
unfolding status_by
some complaints true earned is = (λ h. found_any complaints is, λ h. refl)
some complaints false true is =
    let no : complaints ≡ 0 = found_none complaints is in
    (λ h. absurd (omega (arith, h)), λ h. absurd (omega (arith, h, no)))
some complaints false false is =
    let no : complaints ≡ 0 = found_none complaints is in
    (λ h. absurd (omega (arith, h)), λ h. absurd (omega (arith, h, no)))

none : (complaints : ℕ) (found earned : Bool) → nat_lt 0 complaints ≡ found
    → (status_by found earned ≡ done) ↔ ((complaints ≡ 0) × (earned ≡ true))
unfolding status_by
none complaints true earned is =
    let more : 0 < complaints = found_any complaints is in
    (λ h. absurd (omega (arith, h)), λ h. absurd (omega (arith, h.0, more)))
none complaints false true is = (λ h. (found_none complaints is, refl), λ h. refl)
none complaints false false is = (λ h. absurd (omega (arith, h)), λ h. absurd (cc h.1))

neither_of : (complaints : ℕ) (found earned : Bool) → nat_lt 0 complaints ≡ found
    → (status_by found earned ≡ not_earned) ↔ ((complaints ≡ 0) × (earned ≡ false))
unfolding status_by
neither_of complaints true earned is =
    let more : 0 < complaints = found_any complaints is in
    (λ h. absurd (omega (arith, h)), λ h. absurd (omega (arith, h.0, more)))
neither_of complaints false true is = (λ h. absurd (omega (arith, h)), λ h. absurd (cc h.1))
neither_of complaints false false is = (λ h. (found_none complaints is, refl), λ h. refl)

-- ---- whether a pass is earned

none_missed : (lesson : ℕ) (lessons : List Lesson) → (length (drop (min lesson (length lessons)) lessons) == 0) ≡ true
    → length lessons ≤ lesson
none_missed lesson lessons is =
    let none = eqb-true _ _ is in
    let left = length-drop (min lesson (length lessons)) lessons in
    omega (arith, none, left)

is_none_missed : (lesson : ℕ) (lessons : List Lesson) → length lessons ≤ lesson
    → (length (drop (min lesson (length lessons)) lessons) == 0) ≡ true
is_none_missed lesson lessons over =
    let left = length-drop (min lesson (length lessons)) lessons in
    let none : length (drop (min lesson (length lessons)) lessons) ≡ 0 = omega (arith, over, left) in
    eq-eqb _ _ none

module _ {P : Type 0} (plan : Plan) (last : State P) where
  earned : Bool
  earned = is_earned plan.lessons.items (missed_from plan last.course.place.lesson) last.notes.answered.items

  of_pass : earned ≡ true → last.tally.complaints ≡ 0 → IsPass plan last
  unfolding earned
  of_pass is none_found =
      let both = and_parts _ _ is in
      record {
        nothing_found = none_found;
        over = none_missed last.course.place.lesson plan.lessons.items both.0;
        moves = AllPass-from_list_all (is_among last.notes.answered.items) plan.lessons.items both.1;
      }

  by_pass : IsPass plan last → earned ≡ true
  unfolding earned
  by_pass pass = and_from _ _ (is_none_missed last.course.place.lesson plan.lessons.items pass.over)
      (list_all-from_AllPass (is_among last.notes.answered.items) plan.lessons.items pass.moves)

  by_none : (some : Bool) → earned ≡ some → last.tally.complaints ≡ 0 → (IsPass plan last → ⊥) → some ≡ false
  by_none true is none_found no_pass = absurd (no_pass (of_pass is none_found))
  by_none false is none_found no_pass = refl

  pub found_where : (status_in plan last ≡ something_found) ↔ (0 < last.tally.complaints)
  unfolding status_by
  found_where = some last.tally.complaints (nat_lt 0 last.tally.complaints) _ refl

  pub passes_where : (status_in plan last ≡ done) ↔ IsPass plan last
  unfolding earned status_by
  passes_where =
      let way = none last.tally.complaints (nat_lt 0 last.tally.complaints) earned refl in
      (λ is. of_pass (way.0 is).1 (way.0 is).0, λ pass. way.1 (pass.nothing_found, by_pass pass))

  pub fails_where : (status_in plan last ≡ not_earned) ↔ ((last.tally.complaints ≡ 0) × (IsPass plan last → ⊥))
  unfolding earned status_by
  fails_where =
      let way = neither_of last.tally.complaints (nat_lt 0 last.tally.complaints) earned refl in (
        λ is. ((way.0 is).0, λ pass. absurd (cc ((way.0 is).1, by_pass pass))),
        λ both. way.1 (both.0, by_none earned refl both.0 both.1),
      )
