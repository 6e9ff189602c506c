-- What a course does next, and where an engine is up.
use Rattle.std.proofs.Common.{◌≡◌, Bool, true, false, inl, inr, refl, Result, Ok, Err}
use Rattle.std.specs.Prelude.{IfErr, IfOk, OnOk}
use Rattle.std.proofs.lemmas.Option.{slice_get_cases}
use Rattle.gtp_check_judge.specs.declared.exam.Exam.{Exam}
use Rattle.gtp_check_course.specs.declared.actions.Action.{Action}
use Rattle.gtp_check_course.specs.declared.actions.Action.TheVariants.{Done, Start}
use Rattle.gtp_check_course.specs.Course.{Course}
use Rattle.gtp_check_app.specs.Turns.{IsNext}

up_by : (old : Course) (exam : Exam) (action : Action) (new : Course) → IsNext old exam action new
    → (action ≡ Start → ⊥) → (action ≡ Done → ⊥) → (up : Bool) → exam.up ≡ up → exam.up ≡ true
up_by old exam action new next not_start not_done true is = is
up_by old exam action new next not_start not_done false is =
    absurd (elim (slice_get_cases old.lessons old.place.lesson).1 [
      | inl some ↦ not_start ((rw some.2 at next.starts) is)
      | inr past ↦ not_done (next.over past.0)
    ])

-- where the course neither starts the engine nor is over, it is up
pub next_up : (old : Course) (exam : Exam) (action : Action) (new : Course) → IsNext old exam action new
    → (action ≡ Start → ⊥) → (action ≡ Done → ⊥) → exam.up ≡ true
next_up old exam action new next not_start not_done =
    up_by old exam action new next not_start not_done exam.up refl

-- what follows from what holds of a success
pub where_ok : {T E : Type 0} {A B : Type 0} (result : Result T E) → OnOk result A → (A → B) → OnOk result B
where_ok (Ok value) holds follows = follows holds
where_ok (Err error) holds follows = holds

-- what follows from two facts about a failure
pub where_err : {T E : Type 0} {A B C : E → Type 0} (result : Result T E) → IfErr result A → IfErr result B
    → ((why : E) → A why → B why → C why) → IfErr result C
where_err (Ok value) one other follows = one
where_err (Err error) one other follows = follows error one other

-- what follows from what holds of the value of a success
pub where_value : {T E : Type 0} {A B : T → Type 0} (result : Result T E) → IfOk result A
    → ((value : T) → A value → B value) → IfOk result B
where_value (Ok value) holds follows = follows value holds
where_value (Err error) holds follows = holds

-- and of a failure
pub where_failed : {T E : Type 0} {A B : E → Type 0} (result : Result T E) → IfErr result A
    → ((why : E) → A why → B why) → IfErr result B
where_failed (Ok value) holds follows = holds
where_failed (Err error) holds follows = follows error holds
