-- What is noted of right answers. (Own.)
use Rattle.std.specs.Prelude.{ℕ, ◌==◌, ◌||◌, Bool, true, false, if◌then◌else◌, List, [], length, take}
use Rattle.std.specs.Prelude.{Option, None, Some, is_some}
use Rattle.std.specs.List.{list_any}
use Rattle.gtp_check_course.specs.Lessons.{all_lessons}
use Rattle.gtp_check_course.specs.declared.lessons.Lesson.{Lesson}
use Rattle.gtp_check_judge.specs.declared.asking.CheckCommand.{CheckCommand}
use Rattle.gtp_check_judge.specs.declared.asking.CheckCommand.TheVariants.{Match, FinalScore, Name, Version}
use Rattle.gtp_check_judge.specs.declared.asking.CheckCommand.TheVariants.{KnownCommand, PlayInFull, GenmoveInFull}
use Rattle.gtp_check_judge.specs.declared.asking.CheckCommand.TheVariants.{ListCommands}
use Rattle.gtp_check_judge.specs.declared.asking.CheckCommand.TheVariants.{Faulty, Required}
use Rattle.gtp_check_judge.specs.declared.judging.Refusal.{Refusal}
use Rattle.gtp_check_judge.specs.declared.judging.Refusal.TheVariants as refusal
use Rattle.gtp_check_judge.specs.declared.judging.Refusal.TheVariants.{Size}
use Rattle.gtp_check_judge.specs.declared.skills.Skill.{Skill}
use Rattle.gtp_check_judge.specs.declared.skills.Skill.TheVariants.{Unasked, Has, Lacks}
use Rattle.gtp_check_judge.specs.declared.skills.Skills.{Skills}
use Rattle.gtp_check_judge.specs.declared.unanswered.Asked.{Asked}
use Rattle.gtp_wire.specs.Replies.{most_shown}
use Rattle.gtp_wire.specs.declared.commands.Command.{Command}
use Rattle.gtp_wire.specs.declared.commands.Command.TheVariants.{Boardsize, Komi, ClearBoard, FixedHandicap, Play}
use Rattle.gtp_wire.specs.declared.commands.Command.TheVariants.{Genmove, Undo, Quit}
use Rattle.gtp_wire.specs.declared.replies.Reply.{Reply}
use Rattle.gtp_check_talk.specs.Among.{is_among}
use Rattle.gtp_check_talk.specs.Counts.{one_more, with_more}
use Rattle.gtp_check_talk.specs.declared.notes.Notes.{Notes}

-- before the first start
abbrev pub nothing_noted : Notes
nothing_noted = record {
  name = None;
  version = None;
  refused = record { items = [] };
  lacks_handicap = false;
  lacks_undo = false;
  lacks_score = false;
  accepted = record { items = [] };
  in_a_row = 0;
  most_undos = None;
  has_answered = false;
  unanswered_starts = 0;
  commands = 0;
  answered = record { items = [] };
}

-- the engine was started
abbrev pub started : Notes → Notes
started notes = record notes {
  has_answered = false;
  unanswered_starts = one_more notes.unanswered_starts;
  in_a_row = 0;
}

-- a command of a match asks for a move: a `play` or a `genmove`
abbrev pub is_move : Command → Bool
is_move (Boardsize size) = false
is_move (Komi komi) = false
is_move ClearBoard = false
is_move (FixedHandicap stones) = false
is_move (Play move) = true
is_move (Genmove colour) = true
is_move Undo = false
is_move Quit = false

-- the same of any command, however a colour is written
abbrev pub asks_for_move : CheckCommand → Bool
asks_for_move (Match command) = is_move command
asks_for_move FinalScore = false
asks_for_move Name = false
asks_for_move Version = false
asks_for_move (KnownCommand known) = false
asks_for_move ListCommands = false
asks_for_move (Faulty faulty) = false
asks_for_move (Required required) = false
asks_for_move (PlayInFull move) = true
asks_for_move (GenmoveInFull colour) = true

-- a command was asked
abbrev pub counted : Notes → Notes
counted notes = record notes { commands = one_more notes.commands }

-- a move of the lesson was answered rightly, which is noted once
abbrev pub with_lesson : Lesson → Notes → Notes
with_lesson lesson notes =
    if is_among notes.answered.items lesson then notes
    else record notes { answered = record { items = with_more (length all_lessons) notes.answered.items lesson } }

-- This command of the lesson was answered rightly, if any: the lesson is noted where that asks for a move.
abbrev pub noted_in : Lesson → Option Asked → Notes → Notes
noted_in lesson None notes = notes
noted_in lesson (Some asked) notes = if asks_for_move asked.command then with_lesson lesson notes else notes

-- a right answer came
abbrev pub with_answer : Notes → Notes
with_answer notes = record notes { has_answered = true; unanswered_starts = 0 }

-- the engine said that it lacks the command
abbrev pub lacks : Skill → Bool
lacks Unasked = false
lacks Has = false
lacks Lacks = true

-- what it said that it lacks is noted, and stays
abbrev pub with_lacks : Notes → Skills → Notes
with_lacks notes skills = record notes {
  lacks_handicap = notes.lacks_handicap || lacks skills.fixed_handicap;
  lacks_undo = notes.lacks_undo || lacks skills.undo;
  lacks_score = notes.lacks_score || lacks skills.final_score;
}

-- the beginning of the text of a success, and nothing of a failure
abbrev pub beginning_of : Reply → List ℕ
beginning_of reply = if reply.ok then take most_shown reply.text.items else []

-- How many moves in a row were taken back, once a command of a match was answered rightly: an `undo` takes one back, and
-- after any other success the row begins again.
abbrev pub undos_after : ℕ → Command → Bool → ℕ
undos_after count Undo true = one_more count
undos_after count Undo false = count
undos_after count (Boardsize size) ok = if ok then 0 else count
undos_after count (Komi komi) ok = if ok then 0 else count
undos_after count ClearBoard ok = if ok then 0 else count
undos_after count (FixedHandicap stones) ok = if ok then 0 else count
undos_after count (Play move) ok = if ok then 0 else count
undos_after count (Genmove colour) ok = if ok then 0 else count
undos_after count Quit ok = if ok then 0 else count

-- the size that was accepted by a success to this command, if any
abbrev pub accepted_by : Command → Bool → Option ℕ
accepted_by (Boardsize size) true = Some size
accepted_by (Boardsize size) false = None
accepted_by (Komi komi) ok = None
accepted_by ClearBoard ok = None
accepted_by (FixedHandicap stones) ok = None
accepted_by (Play move) ok = None
accepted_by (Genmove colour) ok = None
accepted_by Undo ok = None
accepted_by Quit ok = None

-- the size was accepted before
abbrev pub is_accepted : Notes → ℕ → Bool
is_accepted notes size = list_any (λ known. known == size) notes.accepted.items

-- a size that was accepted is noted, once
abbrev pub with_accepted : Notes → Option ℕ → Notes
with_accepted notes None = notes
with_accepted notes (Some size) =
    if is_accepted notes size then notes
    else record notes { accepted = record { items = with_more 25 notes.accepted.items size } }

-- what is noted of the reply to a command of a match
abbrev pub with_match : Notes → Command → Bool → Notes
with_match notes command ok =
    with_accepted (record notes { in_a_row = undos_after notes.in_a_row command ok }) (accepted_by command ok)

-- what is noted of the reply to a command
abbrev pub noted_of : CheckCommand → Reply → Skills → Notes → Notes
noted_of Name reply skills notes = record notes { name = Some (record { items = beginning_of reply }) }
noted_of Version reply skills notes = record notes { version = Some (record { items = beginning_of reply }) }
noted_of (KnownCommand known) reply skills notes = with_lacks notes skills
noted_of (Match command) reply skills notes = with_match notes command reply.ok
noted_of FinalScore reply skills notes = notes
noted_of ListCommands reply skills notes = notes
noted_of (Faulty faulty) reply skills notes = notes
noted_of (Required required) reply skills notes = notes
noted_of (PlayInFull move) reply skills notes = with_match notes (Play move) reply.ok
noted_of (GenmoveInFull colour) reply skills notes = with_match notes (Genmove colour) reply.ok

-- the size was refused before
abbrev pub is_refused : Notes → ℕ → Bool
is_refused notes size = list_any (λ known. known == size) notes.refused.items

-- A size that was refused is noted, once. One that was accepted before isn't: some engines refuse a size while a game
-- is on.
abbrev pub with_size : Notes → ℕ → Notes
with_size notes size =
    if is_refused notes size || is_accepted notes size then notes
    else record notes { refused = record { items = with_more 25 notes.refused.items size } }

-- how many moves in a row were taken back where the next `undo` was first refused
abbrev pub with_most_undos : Notes → Notes
with_most_undos notes =
    if is_some notes.most_undos then notes else record notes { most_undos = Some notes.in_a_row }

-- what was refused is noted, if anything
abbrev pub with_refusal : Notes → Option Refusal → Notes
with_refusal notes None = notes
with_refusal notes (Some (Size size)) = with_size notes size
with_refusal notes (Some refusal.Undo) = with_most_undos notes

-- What is noted where this command was answered rightly, if any, by this reply, and this was refused, if anything.
-- Where none was answered nothing is noted, whatever the reply.
abbrev pub noted : Notes → Option Asked → Option Refusal → Reply → Skills → Notes
noted notes None refused reply skills = notes
noted notes (Some asked) refused reply skills =
    with_refusal (noted_of asked.command reply skills (with_answer notes)) refused
