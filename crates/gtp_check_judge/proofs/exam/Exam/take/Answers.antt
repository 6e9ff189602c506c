use Rattle.std.proofs.Common.{Option, sym, ◌∙◌, subst}
use Rattle.std.specs.Prelude.{IfSome}
use Rattle.gtp_check_judge.specs.declared.unanswered.Asked.{Asked}
use Rattle.gtp_check_judge.specs.Exam.{MayBeTaken}
use Rattle.gtp_check_judge.proofs.order.Heard.{may_apply}
use Rattle.gtp_check_judge.proofs.exam.Exam.take.Goals as goal

pub apply-requires : goal.apply-requires
apply-requires c =
    let game = c.args.self.now.game in
    may_apply game c.args.self.now.opinion c.in-Some.asked.due c.args.reply.now _
    (subst (λ (o : Option Asked). IfSome o (λ asked. MayBeTaken game asked.due)) (sym c.oldest.ensures ∙ c.in-Some.is)
    c.requires) c.judge-judged.ensures
