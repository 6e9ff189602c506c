-- Trials of a conversation.
use Rattle.std.proofs.Common.{◌≡◌, ◌∙◌, ap, Some, None, Ok}
use Rattle.gtp_process.specs.declared.starter.Ending.{Ending}
use Rattle.gtp_process.specs.declared.starter.Process.{Ghosts}
use Rattle.gtp_process.specs.Starts.{Attempts, Tries}
use Rattle.gtp_check_judge.specs.Check.{Check, after_loss, started, with_exam}
use Rattle.gtp_check_talk.specs.declared.fault.Fault.{Fault}
use Rattle.gtp_check_talk.specs.Dialogues.{AsksAll, AsksFirst, Dialogue, IsTrial, Spares, SparesToEnd, Standing}
use Rattle.gtp_check_talk.specs.Dialogues.{Trial, Wrong, begun_with, right, standing, wrong, wrong_with}

-- the check with another exam, and then with yet another
pub with_another : (old mid new : Check) → mid ≡ with_exam old mid.exam → new ≡ with_exam mid new.exam
    → new ≡ with_exam old new.exam
with_another old mid new one other = other ∙ ap (λ (check : Check). with_exam check new.exam) one

module _ {P : Type 0} (known : Ghosts P) (tries : Trial) (before : Standing P) (mid new : Check) (has : Attempts P)
    (process : P) (start engine : Dialogue P) (ending : Ending) where
  -- a trial in which something was wrong
  pub trial_wrong : (fault : Fault) (found : Wrong) → mid ≡ started before.check
      → start ≡ begun_with mid.exam process before.notes → new ≡ with_exam mid engine.exam
      → Tries before.asked has tries.line (Ok process) → SparesToEnd known tries.unasked start fault engine
      → AsksFirst tries.purpose tries.commands engine.talk → known.leaves engine.process ending
      → found ≡ wrong_with fault engine ending
      → IsTrial known tries before (Some found) (standing (after_loss new) has engine.notes)
  trial_wrong fault found mid-is start-is new-is tried ends asked left is =
      rw (is, new-is, mid-is) (wrong process ending fault tried (rw (start-is, mid-is) at ends) asked left)

  -- a trial in which nothing was wrong
  pub trial_right : mid ≡ started before.check → start ≡ begun_with mid.exam process before.notes
      → new ≡ with_exam mid engine.exam → Tries before.asked has tries.line (Ok process)
      → Spares known tries.unasked start engine → AsksAll tries engine
      → known.leaves engine.process ending
      → IsTrial known tries before None (standing (after_loss new) has engine.notes)
  trial_right mid-is start-is new-is tried converses asked left =
      rw (new-is, mid-is) (right process ending tried (rw (start-is, mid-is) at converses) asked left)
