use Rattle.std.proofs.Common.{Option, subst}
use Rattle.std.specs.Prelude.{ℕ}
use Rattle.gtp_match.specs.private.Adding.{IsRetakeCount}
use Rattle.gtp_match.specs.Sides.{side_of}
use Rattle.gtp_match.proofs.reporting.Once.{adds_retake, each_up}
use Rattle.gtp_match.proofs.controller.Controller.report.Goals as goal

pub returns-in-Some : goal.returns-in-Some
returns-in-Some c =
    each_up (side_of c.args.self.now.sides c.args.side).up c.retake_count.ensures
    (λ e counts. adds_retake _ _ e _ _ _ c.in-Some.count _ _
    (subst (λ (n : Option ℕ). IsRetakeCount c.args.self.now c.args.side e c.args.outcome n) c.in-Some.is counts)
    c.add_retake.ensures.retake c.add_retake.ensures.loss)
