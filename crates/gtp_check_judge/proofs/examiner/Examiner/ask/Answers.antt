use Rattle.std.proofs.Common.{sym, subst}
use Rattle.gtp_check_judge.specs.Check.{Check}
use Rattle.gtp_check_judge.specs.Exam.{HasRoomFor}
use Rattle.gtp_check_judge.proofs.order.Asked.{asked_orderly}
use Rattle.gtp_check_judge.proofs.checks.Reader.{asked_quiet}
use Rattle.gtp_check_judge.proofs.examiner.Examiner.ask.Goals as goal

pub invariant_of-self : goal.invariant_of-self
invariant_of-self c = record {
  orderly =
      asked_orderly c.self.inside.exam c.args.command c.ask.new.self c.self.invariant.orderly
      (subst (λ (x : Check). HasRoomFor x.exam c.args.command) (sym c.self.view_is) c.requires) c.ask.ensures.asks;
  few = c.self.invariant.few;
  quiet = asked_quiet c.self.inside.exam c.args.command c.ask.new.self c.self.invariant.quiet c.ask.ensures.asks;
}
