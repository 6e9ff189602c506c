use Rattle.std.specs.Prelude.{◌↔◌, IsTrue}
use Rattle.std.proofs.Common.{Bool, sym, subst}
use Rattle.gtp_check_judge.specs.Exam.{engine_of}
use Rattle.gtp_check_talk.specs.Dialogues.{IsIllegal}
use Rattle.gtp_check_talk.proofs.Illegal.{illegal_by}
use Rattle.gtp_check_talk.proofs.engine.line_of.Goals as goal

pub returns-clause-illegal : goal.returns-clause-illegal
returns-clause-illegal c =
    subst (λ (b : Bool). IsTrue b ↔ IsIllegal c.args.examiner.now.exam.game c.args.command.now)
    (sym c.is_bad_move-is_illegal.ensures)
    (illegal_by (engine_of c.args.examiner.now.exam) c.args.command.now c.ask-asking.result.due c.requires.may.may
    c.ask-asking.ensures.is_due)
