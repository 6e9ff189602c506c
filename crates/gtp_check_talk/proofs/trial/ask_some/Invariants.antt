use Rattle.std.proofs.Common.{◌≡◌, take}
use Rattle.gtp_check_judge.specs.Check.{with_exam}
use Rattle.gtp_check_talk.specs.Dialogues.{dialogue, trial_of}
use Rattle.gtp_check_talk.specs.private.Asking.{AreAsked}
use Rattle.gtp_check_talk.proofs.trial.ask_some.Given as goal

-- the commands so far were asked
abbrev pub invariant-loop-index : goal.invariant-loop-index
invariant-loop-index g l = record {
  asks : AreAsked (trial_of l.trial) (dialogue l.fn.engine l.fn.examiner.exam l.fn.notes) (take l.index l.commands)
      (dialogue l.engine l.examiner.exam l.notes);
  check : l.examiner ≡ with_exam l.fn.examiner l.examiner.exam;
}
