-- Every course is bounded.
use Rattle.std.proofs.Common.{◌≡◌, ℕ, ◌+◌, ◌*◌, ◌≤◌, refl, sym, ◌∙◌, subst, arith, List, length, Option, inl, inr}
use Rattle.gtp_check_judge.specs.declared.exam.Exam.{Exam}
use Rattle.gtp_check_course.specs.declared.actions.Action.{Action}
use Rattle.gtp_check_course.specs.declared.actions.Action.TheVariants.{Start, Restart, Kill, Ask, Wait, Skip, Done}
use Rattle.gtp_check_course.specs.declared.lessons.Lesson.{Lesson}
use Rattle.gtp_check_course.specs.declared.openings.Opening.{Opening}
use Rattle.gtp_check_course.specs.declared.openings.Opening.TheVariants as opening
use Rattle.gtp_check_course.specs.Course.{Course, GoesOn, GoesTo, IsIn, Leaves, progress}
use Rattle.gtp_check_course.specs.Laws.{Walks, counted, starts}
use Rattle.gtp_check_course.specs.declared.unasked.Unasked.{Unasked}
use Rattle.gtp_check_course.specs.Openings.{opened}
use Rattle.gtp_check_course.specs.Places.{half}
use Rattle.std.proofs.Common.{Bool, true, false}

-- as much as was asked, the course has gone on, but for the openings
record Holds (lessons : List Lesson) (asked started : ℕ) (course : Course) : Type 0 where
  same : course.lessons ≡ lessons
  few : asked ≤ progress course + 5 * started

few_opened : (now : Opening) → opened now ≤ 5
few_opened opening.Name = omega arith
few_opened opening.Version = omega arith
few_opened opening.KnowsHandicap = omega arith
few_opened opening.KnowsUndo = omega arith
few_opened opening.KnowsScore = omega arith
few_opened opening.Over = omega arith

goes_on : (lessons : List Lesson) (asked started : ℕ) (old new : Course) → Holds lessons asked started old
    → GoesOn old new → Holds lessons (1 + asked) started new
goes_on lessons asked started old new held on =
    record { same = on.lessons ∙ held.same; few = omega (arith, held.few, on.further) }

weaker : (lessons : List Lesson) (asked started : ℕ) (new : Course) → Holds lessons (1 + asked) started new
    → Holds lessons asked started new
weaker lessons asked started new held = record { same = held.same; few = omega (arith, held.few) }

stays : (lessons : List Lesson) (asked started : ℕ) (old new : Course) → Holds lessons asked started old
    → new ≡ old → Holds lessons asked started new
stays lessons asked started old new held same = subst (λ (c : Course). Holds lessons asked started c) (sym same) held

begun_again : (lessons : List Lesson) (asked started : ℕ) (old new : Course) → Holds lessons asked started old
    → new ≡ record old { opening = opening.Name } → Holds lessons asked (1 + started) new
begun_again lessons asked started old new held is =
    let few : opened old.opening ≤ 5 = few_opened old.opening in
    subst (λ (c : Course). Holds lessons asked (1 + started) c) (sym is)
    (record { same = held.same; few = omega (arith, held.few, few) })

step : (lessons : List Lesson) (asked started : ℕ) (old new : Course) (exam : Exam) (action : Action)
    → Holds lessons asked started old → GoesTo old exam action new
    → Holds lessons (counted action + asked) (starts action + started) new
step lessons asked started old new exam Start held goes =
    let h : Holds lessons asked (1 + started) new = begun_again lessons asked started old new held goes.1 in
    record { same = h.same; few = omega (arith, h.few) }
step lessons asked started old new exam Restart held goes =
    let h : Holds lessons (1 + asked) started new = goes_on lessons asked started old new held goes.1 in
    record { same = h.same; few = omega (arith, h.few) }
step lessons asked started old new exam Kill held goes =
    let h : Holds lessons (1 + asked) started new = goes_on lessons asked started old new held goes.1 in
    record { same = h.same; few = omega (arith, h.few) }
step lessons asked started old new exam (Ask command) held goes =
    let h : Holds lessons (1 + asked) started new = goes_on lessons asked started old new held goes.2 in
    record { same = h.same; few = omega (arith, h.few) }
step lessons asked started old new exam Wait held goes =
    let h : Holds lessons asked started new = stays lessons asked started old new held goes.1 in
    record { same = h.same; few = omega (arith, h.few) }
step lessons asked started old new exam Skip held goes =
    let h : Holds lessons (1 + asked) started new = goes_on lessons asked started old new held goes in
    record { same = h.same; few = omega (arith, h.few) }
step lessons asked started old new exam Done held goes =
    let h : Holds lessons asked started new = stays lessons asked started old new held goes.1 in
    record { same = h.same; few = omega (arith, h.few) }

left : (lessons : List Lesson) (asked started : ℕ) (old new : Course) → Holds lessons asked started old
    → Leaves old new → Holds lessons asked started new
left lessons asked started old new held (inl over) = stays lessons asked started old new held over.1
left lessons asked started old new held (inr on) =
    weaker lessons asked started new (goes_on lessons asked started old new held on)

holds : (lessons : List Lesson) (scene_size : Option ℕ) (seed : ℕ) (unasked : Unasked) (asked started : ℕ)
    (course : Course) → Walks lessons scene_size seed unasked asked started course
    → Holds lessons asked started course
holds lessons scene_size seed unasked asked started course Walks.begins = record { same = refl; few = omega arith }
holds lessons scene_size seed unasked asked started course
    (Walks.goes {asked = a} {started = s} {old = old} exam action walk goes) =
    step lessons a s old course exam action (holds lessons scene_size seed unasked a s old walk) goes
holds lessons scene_size seed unasked asked started course (Walks.leaves {old = old} walks leaves) =
    left lessons asked started old course (holds lessons scene_size seed unasked asked started old walks) leaves
holds lessons scene_size seed unasked asked started course (Walks.finds {old = old} is_loss walks) =
    let held = holds lessons scene_size seed unasked asked started old walks in
    record { same = held.same; few = held.few }

few_half : (is : Bool) → half is ≤ 1
few_half true = omega arith
few_half false = omega arith

pub bounded : (lessons : List Lesson) (scene_size : Option ℕ) (seed : ℕ) (unasked : Unasked) (asked started : ℕ)
    (course : Course) → Walks lessons scene_size seed unasked asked started course → IsIn course.lessons course.place
    → asked ≤ 67200000 * (length lessons + 1) + 5 * (started + 1)
bounded lessons scene_size seed unasked asked started course walks inside =
    let held : Holds lessons asked started course = holds lessons scene_size seed unasked asked started course walks in
    let within : course.place.lesson ≤ length lessons =
    subst (λ (l : List Lesson). course.place.lesson ≤ length l) held.same inside.lesson in
    let opened_few : opened course.opening ≤ 5 = few_opened course.opening in
    let undoing_few : half course.place.undoing ≤ 1 = few_half course.place.undoing in
    omega (arith, held.few, within, opened_few, undoing_few, inside.place.part, inside.place.stretch, inside.place.step)
