-- What isn't asked is left out throughout, and then the ko rules of engines agree.
use Rattle.std.proofs.Common.{◌≡◌, ℕ, Bool, true, false, List, Option, refl, sym, ap, subst, ◌∙◌, inl, inr}
use Rattle.go_base.specs.declared.moves.Move.{Move}
use Rattle.go_board.specs.Game.{GameRecord}
use Rattle.go_board.specs.Refusals.{RefusesVertex}
use Rattle.go_board.specs.declared.faults.PlayFault.{PlayFault}
use Rattle.gtp_check_judge.specs.Asking.{IsPlayOf}
use Rattle.gtp_check_judge.specs.declared.asking.CheckCommand.{CheckCommand}
use Rattle.gtp_check_judge.specs.declared.asking.CheckCommand.TheVariants.{FinalScore}
use Rattle.gtp_check_judge.specs.declared.exam.Exam.{Exam}
use Rattle.gtp_check_course.specs.declared.actions.Action.{Action}
use Rattle.gtp_check_course.specs.declared.actions.Action.TheVariants.{Start, Restart, Kill, Ask, Wait, Skip, Done}
use Rattle.gtp_check_course.specs.declared.lessons.Lesson.{Lesson}
use Rattle.gtp_check_course.specs.declared.unasked.Unasked.{Unasked}
use Rattle.gtp_check_course.specs.Course.{Course, GoesTo, IsLeftOut, IsSpared, Leaves, spares}
use Rattle.gtp_check_course.specs.Laws.{Walks}

-- a call keeps what isn't asked
kept : (old new : Course) (exam : Exam) (action : Action) → GoesTo old exam action new → new.unasked ≡ old.unasked
kept old new exam Start goes = ap (λ (c : Course). c.unasked) goes.1
kept old new exam Restart goes = goes.1.unasked
kept old new exam Kill goes = goes.1.unasked
kept old new exam (Ask command) goes = goes.2.unasked
kept old new exam Wait goes = ap (λ (c : Course). c.unasked) goes.1
kept old new exam Skip goes = goes.unasked
kept old new exam Done goes = ap (λ (c : Course). c.unasked) goes.1

left : (old new : Course) → Leaves old new → new.unasked ≡ old.unasked
left old new (inl over) = ap (λ (c : Course). c.unasked) over.1
left old new (inr on) = on.unasked

-- so does each walk
pub of_walk : (lessons : List Lesson) (scene_size : Option ℕ) (seed : ℕ) (unasked : Unasked) (asked started : ℕ)
    (course : Course) → Walks lessons scene_size seed unasked asked started course → course.unasked ≡ unasked
of_walk lessons scene_size seed unasked asked started course Walks.begins = refl
of_walk lessons scene_size seed unasked asked started course
    (Walks.goes {asked = a} {started = s} {old = old} exam action walk goes) =
    kept old course exam action goes ∙ of_walk lessons scene_size seed unasked a s old walk
of_walk lessons scene_size seed unasked asked started course (Walks.leaves {old = old} walks leaves) =
    left old course leaves ∙ of_walk lessons scene_size seed unasked asked started old walks
of_walk lessons scene_size seed unasked asked started course (Walks.finds {old = old} is_loss walks) =
    of_walk lessons scene_size seed unasked asked started old walks

-- a `play` that the rules refuse for a cause which isn't asked is left out, however its colour is written
left_out : (unasked : Unasked) (game : GameRecord) (command : CheckCommand) (move : Move) → IsPlayOf move command
    → IsSpared unasked game move → IsLeftOut unasked game command
left_out unasked game command move (inl is) spared = subst (IsLeftOut unasked game) (sym is) spared
left_out unasked game command move (inr is) spared = subst (IsLeftOut unasked game) (sym is) spared

-- what isn't so is false
not_so : (is : Bool) → ¬ (is ≡ true) → is ≡ false
not_so true h = absurd (h refl)
not_so false h = refl

pub plays_not : (unasked : Unasked) (old new : Course) (exam : Exam) (command : CheckCommand) (move : Move)
    (fault : PlayFault) → old.unasked ≡ unasked → IsPlayOf move command → GoesTo old exam (Ask command) new
    → RefusesVertex exam.game move.colour move.vertex fault → spares unasked fault ≡ false
plays_not unasked old new exam command move fault same play goes refuses =
    not_so (spares unasked fault) (λ spared. goes.1 (left_out old.unasked exam.game command move play (record {
      fault = fault;
      refuses = refuses;
      spared = ap (λ (u : Unasked). spares u fault) same ∙ spared;
    })))

pub scores_not : (unasked : Unasked) (old new : Course) (exam : Exam) → old.unasked ≡ unasked
    → GoesTo old exam (Ask FinalScore) new → unasked.score ≡ false
scores_not unasked old new exam same goes =
    not_so unasked.score (λ so. goes.1 (ap (λ (u : Unasked). u.score) same ∙ so))
