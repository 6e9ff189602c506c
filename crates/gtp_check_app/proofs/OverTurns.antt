-- The laws of a whole check, from what holds of each turn.
use Rattle.std.proofs.Common.{None}
use Rattle.gtp_check_talk.specs.Dialogues.{dialogue}
use Rattle.gtp_check_app.specs.RunLaws.{ComesTo, EachComplaintIsJust, SilentChecksAreRight}
use Rattle.gtp_check_app.specs.Sequence.{Beginning, Known, Point}
use Rattle.gtp_check_app.proofs.InTrials.{Laws}
use Rattle.gtp_check_app.proofs.InTurns.{IsSound, all_sound, turn_just, turn_none, turns_none}

module _ {P O E : Type 0} (known : Known P O E) (laws : Laws known.processes) where
  sound_at : (begins : Beginning P O E) (now : Point P O E) → ComesTo known begins now
      → IsSound known.processes laws begins.plan begins.asked None now.now
  sound_at begins now comes = all_sound known laws begins comes.turns

  pub silent_checks : SilentChecksAreRight known
  silent_checks = record {
    no_fault = λ begins last is has.
        (turn_none known.processes laws begins.plan has.before.now has.is.turn
        (turns_none known laws begins.plan has.after has.goes_on is)).1;
    right = λ begins now engine comes there.
        let held = (sound_at begins now comes).engine engine there in
        record {
          held = held;
          right = laws.silent begins.plan.rule held.process held.first
              (dialogue engine now.now.state.check.exam now.now.state.notes) held.ends;
        };
  }

  pub just_complaints : EachComplaintIsJust known
  just_complaints begins last has =
      turn_just known.processes laws begins.plan has.before.now (sound_at begins has.before has.comes) has.is.turn
