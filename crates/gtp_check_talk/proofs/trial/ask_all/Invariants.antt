use Rattle.std.proofs.Common.{◌≡◌, true, [], ◌++◌, length}
use Rattle.gtp_check_judge.specs.Check.{with_exam}
use Rattle.gtp_check_talk.specs.Dialogues.{AreFor, Spares, dialogue}
use Rattle.gtp_check_talk.specs.Said.{commands_of}
use Rattle.gtp_check_talk.proofs.Turns.{left}
use Rattle.gtp_check_talk.proofs.trial.ask_all.Given as goal

-- nothing was wrong so far
abbrev pub invariant-loop-asked : goal.invariant-loop-asked
invariant-loop-asked g l = record {
  spares : Spares g.P.Process l.trial.unasked (dialogue l.fn.engine l.fn.examiner.exam l.fn.notes)
      (dialogue l.engine l.examiner.exam l.notes);
  check : l.examiner ≡ with_exam l.fn.examiner l.examiner.exam;
  up : l.examiner.exam.up ≡ true;
  first : l.fn.engine.talk.items ≡ [] → commands_of l.engine.talk.items ++ l.rest ≡ l.trial.commands.now;
  purposes : l.fn.engine.talk.items ≡ [] → AreFor l.trial.purpose l.engine.talk.items;
}

abbrev pub decreases-loop-asked : goal.decreases-loop-asked
decreases-loop-asked g l = left (length l.rest) l.examiner.exam l.engine.waiting.items
