-- What is said with an engine as long as nothing is found, and how it is lost.
use Rattle.std.proofs.Common.{◌≡◌, ℕ, ◌<◌, true, List, [], ◌++◌, length, refl, subst, Option, Some}
use Rattle.std.specs.Io.KnownBytes.{Keeps}
use Rattle.std.proofs.KnownBytes.{Appends-kept}
use Rattle.go_board.specs.declared.rules.KoRule.{KoRule}
use Rattle.gtp_process.specs.declared.causes.PipeCause.{PipeCause}
use Rattle.gtp_process.specs.declared.starter.Process.{Ghosts}
use Rattle.gtp_check_judge.specs.Exam.{begun}
use Rattle.gtp_check_judge.specs.Laws.{SilenceSaysAllIsRight}
use Rattle.gtp_check_talk.specs.declared.fault.Fault.{Fault}
use Rattle.gtp_check_talk.specs.declared.fault.Fault.TheVariants.{CutOff}
use Rattle.gtp_check_talk.specs.declared.notes.Notes.{Notes}
use Rattle.gtp_check_talk.specs.Dialogues.{AreHeard, Converses, Dialogue, EndsWrong, IsExchanged, IsRead, begun_with}
use Rattle.gtp_check_talk.specs.Laws.{BreaksOff, IsLost, IsRightlyAnswered}
use Rattle.gtp_check_talk.proofs.Talks.{IsTalk, converses_talk, sent_talk}

-- what is cut off is cut off for one cause
one_cause : {one other : PipeCause} → Some (CutOff one) ≡ Some (CutOff other) → one ≡ other
one_cause same = cc same

module _ {P : Type 0} (known : Ghosts P) (rule : KoRule) (process : P) (first : Notes)
    (silence : SilenceSaysAllIsRight) where
  answered : (now : Dialogue P) → IsTalk known rule process now
      → IsRightlyAnswered known rule process now
  answered now talk = record {
    up = talk.goes.up;
    came = talk.came;
    said = talk.goes.said;
    talks = talk.goes.talks;
    right = silence rule now.sent talk.came talk.goes.said now.exam talk.goes.talks;
    gave = talk.gave;
  }

  pub silent : (now : Dialogue P) → Converses known (begun_with (begun rule true) process first) now
      → IsRightlyAnswered known rule process now
  silent now converses = answered now (converses_talk known rule process first converses)

  -- ---- a loss

  -- a process that gave nothing more is in the same talk
  after_last : (before : Dialogue P) (next : P) → IsTalk known rule process before
      → Keeps (known.given before.process) (known.given next)
      → IsTalk known rule process (record before { process = next })
  after_last before next talk given = record {
    came = talk.came;
    goes = talk.goes;
    gave = Appends-kept (known.given process) (known.given before.process) (known.given next)
        (talk.came ++ before.held) talk.gave given;
  }

  lost_by : (before : Dialogue P) (next : P) (cause : PipeCause) → IsTalk known rule process before
      → 0 < length before.exam.unanswered → Keeps (known.given before.process) (known.given next)
      → BreaksOff known before.process next cause
      → IsLost known rule process cause (record before { process = next })
  lost_by before next cause talk owes given breaks = record {
    right = answered (record before { process = next }) (after_last before next talk given);
    owes = owes;
    last = before.process;
    breaks = breaks;
  }

  heard_lost : (bytes : List ℕ) (before : Dialogue P) (cause : PipeCause) (after : Dialogue P)
      → AreHeard bytes before (Some (CutOff cause)) after
      → IsLost known rule process cause after
  heard_lost bytes before cause after heard = absurd (let never = heard.kind in cc never)

  read_lost : (before : Dialogue P) (cause : PipeCause) (after : Dialogue P)
      → IsTalk known rule process before → 0 < length before.exam.unanswered
      → (fault : Option Fault) → fault ≡ Some (CutOff cause) → IsRead known before fault after
      → IsLost known rule process cause after
  read_lost before cause after talk owes fault is
      (IsRead.gives bytes next some gave unbroken taken heard) =
      heard_lost bytes (record before { process = next }) cause after
      (subst (λ (f : Option Fault). AreHeard bytes (record before { process = next }) f after) is heard)
  read_lost before cause after talk owes fault is (IsRead.ends next ended given taken) =
      lost_by before next cause talk owes given
      (subst (BreaksOff known before.process next) (one_cause is) (BreaksOff.ended ended))
  read_lost before cause after talk owes fault is (IsRead.breaks next cut given taken) =
      lost_by before next cause talk owes given
      (subst (BreaksOff known before.process next) (one_cause is) (BreaksOff.broke cut))

  exchanged_lost : (before : Dialogue P) (cause : PipeCause) (after : Dialogue P)
      → IsTalk known rule process before
      → (fault : Option Fault) → fault ≡ Some (CutOff cause) → IsExchanged known before fault after
      → IsLost known rule process cause after
  exchanged_lost before cause after talk fault is (IsExchanged.owes_nothing next none sent) = absurd (cc is)
  exchanged_lost before cause after talk fault is (IsExchanged.held owes some heard) =
      heard_lost before.held (record before { held = [] }) cause after
      (subst (λ (f : Option Fault). AreHeard before.held (record before { held = [] }) f after) is heard)
  exchanged_lost before cause after talk fault is (IsExchanged.reads next owes none sent read) =
      read_lost (record before { process = next; waiting = [] }) cause after
      (sent_talk known rule process first before next talk sent) owes fault is read

  pub lost : (cause : PipeCause) (after : Dialogue P)
      → EndsWrong known (begun_with (begun rule true) process first) (CutOff cause) after
      → IsLost known rule process cause after
  lost cause after ends =
      exchanged_lost ends.before cause after
      (converses_talk known rule process first ends.converses) (Some (CutOff cause)) refl ends.exchanged
