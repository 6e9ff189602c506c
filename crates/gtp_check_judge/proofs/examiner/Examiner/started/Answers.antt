use Rattle.std.proofs.Common.{◌+◌, ◌<◌, true, arith, subst, sym}
use Rattle.gtp_check_judge.specs.declared.exam.Exam.{Exam}
use Rattle.gtp_check_judge.specs.Check.{Check, IsWithin}
use Rattle.gtp_check_judge.proofs.checks.Reader.{nothing_held}
use Rattle.gtp_check_judge.proofs.talks.Silence.{begun_orderly}
use Rattle.gtp_check_judge.proofs.examiner.Examiner.started.Goals as goal

pub invariant_of-self : goal.invariant_of-self
invariant_of-self c =
    let room = subst (λ (x : Check). x.starts < x.most_starts) (sym c.self.view_is) c.requires in
    subst (λ (e : Exam). IsWithin e (c.self.inside.starts + 1) c.self.inside.most_starts)
    (sym c.new-self-inside.ensures)
    (record { orderly = begun_orderly _ true; few = omega (arith, room); quiet = λ up. nothing_held })
