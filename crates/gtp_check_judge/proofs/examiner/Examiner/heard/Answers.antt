use Rattle.gtp_check_judge.proofs.order.Heard.{may_reply, heard_orderly}
use Rattle.gtp_check_judge.proofs.checks.Reader.{heard_quiet}
use Rattle.gtp_check_judge.proofs.examiner.Examiner.heard.Goals as goal

pub hear-requires : goal.hear-requires
hear-requires c = may_reply c.self.inside.exam c.self.invariant.orderly

pub invariant_of-self : goal.invariant_of-self
invariant_of-self c = record {
  orderly = heard_orderly c.self.inside.exam _ _ _ _ _ c.self.invariant.orderly c.hear.ensures.hears;
  few = c.self.invariant.few;
  quiet = heard_quiet c.self.inside.exam _ _ _ _ _ c.hear.ensures.hears;
}
