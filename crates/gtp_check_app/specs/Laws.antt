-- A pass is earned. (Own.)
use Rattle.std.specs.Prelude.{◌≡◌, ◌≤◌, ◌<◌, ◌↔◌, true, All, length}
use Rattle.gtp_process.specs.declared.starter.Process.{Ghosts}
use Rattle.cli.specs.Status.{done}
use Rattle.gtp_check_course.specs.declared.plan.Plan.{Plan}
use Rattle.gtp_check_app.specs.Checks.{status_in}
use Rattle.gtp_check_talk.specs.Among.{is_among}
use Rattle.gtp_check_talk.specs.Laws.{MovesAreNotedOnceAnswered}
use Rattle.gtp_check_app.specs.Status.{not_earned, something_found}
use Rattle.gtp_check_app.specs.Turns.{State}

-- A check is over so, and the engine has passed: nothing was found, the course is over, and of each of its lessons it
-- is noted that a move was answered rightly.
pub record IsPass {P : Type 0} (plan : Plan) (last : State P) : Type 0 where
  pub nothing_found : last.tally.complaints ≡ 0
  pub over : length plan.lessons.items ≤ last.course.place.lesson
  pub moves : All (λ lesson. is_among last.notes.answered.items lesson ≡ true) plan.lessons.items

-- What a status says of a check that is over so: 1 that something was found, 0 that the engine has passed, and 4 that
-- nothing was found and it hasn't passed. And a lesson is noted just where a move that was asked in it was answered
-- rightly.
pub record APassIsEarned {P : Type 0} (known : Ghosts P) : Type 0 where
  pub found : (plan : Plan) (last : State P) → (status_in plan last ≡ something_found) ↔ (0 < last.tally.complaints)
  pub passed : (plan : Plan) (last : State P) → (status_in plan last ≡ done) ↔ IsPass plan last
  pub neither : (plan : Plan) (last : State P) → (status_in plan last ≡ not_earned)
      ↔ ((last.tally.complaints ≡ 0) × (¬ IsPass plan last))
  pub noted : MovesAreNotedOnceAnswered known
