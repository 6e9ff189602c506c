-- What stays of what was noted, whatever a right answer says.
use Rattle.std.proofs.Common.{◌≡◌, ◌∙◌, refl, ℕ, Bool, true, false, Option, None, Some}
use Rattle.std.specs.Prelude.{if◌then◌else◌, ◌||◌, is_some}
use Rattle.gtp_wire.specs.declared.commands.Command.{Command}
use Rattle.gtp_wire.specs.declared.commands.Command.TheVariants.{Play, Genmove}
use Rattle.gtp_wire.specs.declared.replies.Reply.{Reply}
use Rattle.gtp_check_judge.specs.declared.asking.CheckCommand.{CheckCommand}
use Rattle.gtp_check_judge.specs.declared.asking.CheckCommand.TheVariants.{Match, FinalScore, Name, Version}
use Rattle.gtp_check_judge.specs.declared.asking.CheckCommand.TheVariants.{KnownCommand, ListCommands, PlayInFull}
use Rattle.gtp_check_judge.specs.declared.asking.CheckCommand.TheVariants.{Faulty, Required}
use Rattle.gtp_check_judge.specs.declared.asking.CheckCommand.TheVariants.{GenmoveInFull}
use Rattle.gtp_check_judge.specs.declared.judging.Refusal.{Refusal}
use Rattle.gtp_check_judge.specs.declared.judging.Refusal.TheVariants as refusal
use Rattle.gtp_check_judge.specs.declared.skills.Skills.{Skills}
use Rattle.gtp_check_judge.specs.declared.unanswered.Asked.{Asked}
use Rattle.gtp_check_talk.specs.Counts.{with_more}
use Rattle.gtp_check_talk.specs.declared.notes.Notes.{Notes}
use Rattle.gtp_check_talk.specs.Notes.{is_refused, is_accepted, noted, noted_of, accepted_by, undos_after, with_answer}
use Rattle.gtp_check_talk.specs.Notes.{with_match, with_most_undos, with_refusal, with_size, with_accepted}

-- the starts without a right answer stay, and the lessons in which a move was answered
pub record Keeps (before after : Notes) : Type 0 where
  pub unanswered_starts : after.unanswered_starts ≡ before.unanswered_starts
  pub answered : after.answered.items ≡ before.answered.items

same : (notes : Notes) → Keeps notes notes
same notes = record { unanswered_starts = refl; answered = refl }

both : (before mid after : Notes) → Keeps before mid → Keeps mid after → Keeps before after
both before mid after one other = record {
  unanswered_starts = other.unanswered_starts ∙ one.unanswered_starts;
  answered = other.answered ∙ one.answered;
}

accepted_keeps : (notes : Notes) (size : Option ℕ) → Keeps notes (with_accepted notes size)
accepted_keeps notes None = same notes
accepted_keeps notes (Some size) = by (is_accepted notes size)
  where
    by : (b : Bool) → Keeps notes (if b then notes else record notes {
      accepted = record { items = with_more 25 notes.accepted.items size };
    })
    by true = same notes
    by false = record { unanswered_starts = refl; answered = refl }

match_keeps : (command : Command) (reply : Reply) (notes : Notes) → Keeps notes (with_match notes command reply.ok)
match_keeps command reply notes =
    let mid = record notes { in_a_row = undos_after notes.in_a_row command reply.ok } in
    both notes mid (with_match notes command reply.ok) (record { unanswered_starts = refl; answered = refl })
    (accepted_keeps mid (accepted_by command reply.ok))

of_keeps : (command : CheckCommand) (reply : Reply) (skills : Skills) (notes : Notes)
    → Keeps notes (noted_of command reply skills notes)
of_keeps Name reply skills notes = record { unanswered_starts = refl; answered = refl }
of_keeps Version reply skills notes = record { unanswered_starts = refl; answered = refl }
of_keeps (KnownCommand known) reply skills notes = record { unanswered_starts = refl; answered = refl }
of_keeps (Match command) reply skills notes = match_keeps command reply notes
of_keeps FinalScore reply skills notes = same notes
of_keeps ListCommands reply skills notes = same notes
of_keeps (Faulty faulty) reply skills notes = same notes
of_keeps (Required required) reply skills notes = same notes
of_keeps (PlayInFull move) reply skills notes = match_keeps (Play move) reply notes
of_keeps (GenmoveInFull colour) reply skills notes = match_keeps (Genmove colour) reply notes

size_keeps : (notes : Notes) (size : ℕ) → Keeps notes (with_size notes size)
size_keeps notes size = by (is_refused notes size || is_accepted notes size)
  where
    by : (b : Bool) → Keeps notes (if b then notes else record notes {
      refused = record { items = with_more 25 notes.refused.items size };
    })
    by true = same notes
    by false = record { unanswered_starts = refl; answered = refl }

undos_keep : (notes : Notes) → Keeps notes (with_most_undos notes)
undos_keep notes = by (is_some notes.most_undos)
  where
    by : (b : Bool) → Keeps notes (if b then notes else record notes { most_undos = Some notes.in_a_row })
    by true = same notes
    by false = record { unanswered_starts = refl; answered = refl }

refusal_keeps : (notes : Notes) (refused : Option Refusal) → Keeps notes (with_refusal notes refused)
refusal_keeps notes None = same notes
refusal_keeps notes (Some (refusal.Size size)) = size_keeps notes size
refusal_keeps notes (Some refusal.Undo) = undos_keep notes

-- after a right answer, all but that it came
pub noted_keeps : (notes : Notes) (entry : Asked) (refused : Option Refusal) (reply : Reply) (skills : Skills)
    → Keeps (with_answer notes) (noted notes (Some entry) refused reply skills)
noted_keeps notes entry refused reply skills =
    let mid = noted_of entry.command reply skills (with_answer notes) in
    both (with_answer notes) mid (with_refusal mid refused) (of_keeps entry.command reply skills (with_answer notes))
    (refusal_keeps mid refused)
