-- What is said with an engine since it was started: what it is asked, what it writes, and what is found. (Own.)
use Rattle.std.specs.Prelude.{◌≡◌, ℕ, ◌+◌, ◌*◌, ◌<◌, ◌⊎◌, Bool, true, false, List, [], ◌∷◌, ◌++◌, length, take, drop}
use Rattle.std.specs.Prelude.{◌-◌, slice_get, Option, None, Some, IfSome, is_some, option_map, if◌then◌else◌}
use Rattle.std.specs.List.{position_or_len}
use Rattle.std.specs.Option.{option_map_or}
use Rattle.std.specs.Prelude.{Result, Ok, Err, IsTrue, ◌↔◌, All}
use Rattle.std.specs.Io.KnownBytes.{Appends, Keeps}
use Rattle.byte_streams.specs.Parts.{TakesPart}
use Rattle.go_base.specs.declared.moves.Move.{Move}
use Rattle.go_board.specs.Game.{GameRecord, IsLegal}
use Rattle.gtp_wire.specs.Commands.{most_command_bytes}
use Rattle.gtp_wire.specs.Replies.{most_shown}
use Rattle.gtp_wire.specs.declared.commands.Command.TheVariants.{Play}
use Rattle.gtp_wire.specs.declared.replies.Reply.{Reply}
use Rattle.gtp_wire.specs.declared.replies.ReplyFault.{ReplyFault}
use Rattle.gtp_process.specs.declared.causes.PipeCause.TheVariants.{Ended, Reading}
use Rattle.gtp_process.specs.declared.starter.Process.{Ghosts}
use Rattle.gtp_process.specs.declared.starter.Ending.{Ending}
use Rattle.gtp_process.specs.declared.starter.StartFault.{StartFault}
use Rattle.gtp_process.specs.declared.starter.StartFault.TheVariants as start_fault
use Rattle.gtp_process.specs.declared.starter.StartReason.{StartReason}
use Rattle.gtp_process.specs.Starts.{Attempts, Text, Tries, program_line}
use Rattle.gtp_process.specs.Pipes.{IsCutOff, IsUnbroken, OutputEnded}
use Rattle.gtp_check_judge.specs.declared.asking.CheckCommand.{CheckCommand}
use Rattle.gtp_check_judge.specs.declared.asking.CheckCommand.TheVariants.{Match, PlayInFull}
use Rattle.gtp_check_judge.specs.declared.exam.Exam.{Exam}
use Rattle.gtp_check_judge.specs.declared.exam.Finding.{Finding}
use Rattle.gtp_check_judge.specs.declared.skills.Skills.{Skills}
use Rattle.gtp_check_judge.specs.declared.unanswered.Asked.{Asked}
use Rattle.gtp_check_judge.specs.Asking.{written_check}
use Rattle.gtp_check_judge.specs.Judging.{oldest, refused_by}
use Rattle.gtp_check_judge.specs.Check.{Check, after_loss, started, with_exam}
use Rattle.gtp_check_course.specs.declared.lessons.Lesson.{Lesson}
use Rattle.gtp_check_course.specs.declared.lessons.Lesson.TheVariants as lesson
use Rattle.gtp_check_course.specs.declared.unasked.Unasked.{Unasked}
use Rattle.gtp_check_course.specs.Course.{IsLeftOut}
use Rattle.gtp_check_course.specs.Lessons.{is_in_pieces}
use Rattle.gtp_check_judge.specs.Exam.{Asks, HasRoomFor, Hearing, Hears, HearsDown, hearing}
use Rattle.gtp_check_talk.specs.declared.engine.Engine.{Engine}
use Rattle.gtp_check_talk.specs.declared.fault.Fault.{Fault}
use Rattle.gtp_check_talk.specs.declared.fault.Fault.TheVariants.{CutOff, Wrote}
use Rattle.gtp_check_talk.specs.Lines.{is_newline}
use Rattle.gtp_check_talk.specs.declared.notes.Notes.{Notes}
use Rattle.gtp_check_talk.specs.declared.said.Purpose.{Purpose}
use Rattle.gtp_check_talk.specs.declared.said.Said.{Said}
use Rattle.gtp_check_talk.specs.declared.trial.Trial.{Trial as TrialOfCommands}
use Rattle.gtp_check_talk.specs.declared.trial.Tried.{Tried}
use Rattle.gtp_check_talk.specs.Notes.{counted, noted, noted_in}
use Rattle.gtp_check_talk.specs.Said.{commands_of}

-- ---- an engine that was started

-- An engine that was started: its exam, its process, the bytes of all lines that it was asked, the commands, those bytes
-- that aren't sent yet, what it wrote that wasn't heard yet, and the beginning of what it wrote since its last whole
-- reply. And what is noted of it so far.
pub record Dialogue (P : Type 0) : Type 0 where
  pub exam : Exam
  pub process : P
  pub sent : List ℕ
  pub talk : List Said
  pub waiting : List ℕ
  pub held : List ℕ
  pub wrote : List ℕ
  pub notes : Notes

abbrev pub dialogue : {P : Type 0} → Engine P → Exam → Notes → Dialogue P
dialogue engine exam notes = record {
  exam = exam;
  process = engine.process;
  sent = engine.sent.items;
  talk = engine.talk.items;
  waiting = engine.waiting.items;
  held = engine.held;
  wrote = engine.wrote.items;
  notes = notes;
}

-- one that was asked nothing
abbrev pub begun_with : {P : Type 0} → Exam → P → Notes → Dialogue P
begun_with exam process notes = record {
  exam = exam;
  process = process;
  sent = [];
  talk = [];
  waiting = [];
  held = [];
  wrote = [];
  notes = notes;
}

-- how many bytes of the lines that it was asked were sent: all but those that wait
abbrev pub delivered : {P : Type 0} → Dialogue P → ℕ
delivered engine = length engine.sent - length engine.waiting

-- ---- a command

-- a `play` that isn't legal in this game: a right engine refuses it
abbrev pub IsIllegal : GameRecord → CheckCommand → Type 0
IsIllegal game (Match (Play move)) = ¬ IsLegal game move.colour move.vertex
IsIllegal game (PlayInFull move) = ¬ IsLegal game move.colour move.vertex
IsIllegal game _ = ⊥

-- the last move of a game, if it has one
abbrev pub last_move : GameRecord → Option Move
last_move game = slice_get game.moves (length game.moves - 1)

-- whether the line of the command that was asked last is sent in two chunks: so are those of its part
abbrev pub ends_in_pieces : List Said → Bool
ends_in_pieces talk =
    option_map_or (λ said. is_in_pieces said.purpose.lesson said.purpose.part) (slice_get talk (length talk - 1)) false

-- Another line may follow the lines that wait: none of them is sent in two chunks. So a line that is sent in chunks is
-- the last of those that are sent with it.
abbrev pub MayFollow : List Said → List ℕ → Type 0
MayFollow talk waiting = ends_in_pieces talk ≡ true → waiting ≡ []

-- how many bytes of lines can wait to be sent
abbrev pub lines_room : ℕ
lines_room = 16 * most_command_bytes

-- Another line can't wait: there is no room for it, or one waits that is sent in two chunks.
abbrev pub IsFull : List Said → List ℕ → Type 0
IsFull talk waiting =
    (lines_room < length waiting + most_command_bytes) ⊎ ((ends_in_pieces talk ≡ true) × (0 < length waiting))

-- A command is asked, for this purpose: it may be asked, and its line is joined to what the engine was asked and to
-- what is sent next, which it may follow. It is counted.
pub record IsAsked {P : Type 0} (purpose : Purpose) (before : Dialogue P) (command : CheckCommand)
    (after : Dialogue P) : Type 0 where
  pub may : HasRoomFor before.exam command
  pub follows : MayFollow before.talk before.waiting
  pub asks : Asks before.exam command after.exam
  pub is_illegal : Bool
  pub illegal : IsTrue is_illegal ↔ IsIllegal before.exam.game command
  pub joins : after ≡ record before {
    exam = after.exam;
    sent = before.sent ++ written_check after.exam.sent command;
    talk = before.talk ++ record {
      command = command;
      purpose = purpose;
      is_illegal = is_illegal;
      size = before.exam.game.size;
      moves = length before.exam.game.moves;
      last = last_move before.exam.game;
      end = length (before.sent ++ written_check after.exam.sent command);
    } ∷ [];
    waiting = before.waiting ++ written_check after.exam.sent command;
    notes = counted before.notes;
  }

-- ---- what it wrote

-- what a command was asked for, if there is one
abbrev pub purpose_of : Option Said → Purpose
purpose_of None = record { lesson = lesson.Start; part = 0 }
purpose_of (Some said) = said.purpose

-- for what the oldest command that isn't answered was asked
abbrev pub owed_purpose : List Said → Exam → Purpose
owed_purpose talk exam = purpose_of (slice_get talk (length talk - length exam.unanswered))

-- what is noted of what was read, where this is the oldest command, if any, asked in this lesson, and nothing was found
abbrev pub noted_of_read : Lesson → Notes → Option Asked → Option (Result Reply ReplyFault) → Skills → Notes
noted_of_read lesson notes (Some asked) (Some (Ok reply)) skills =
    noted_in lesson (Some asked) (noted notes (Some asked) (refused_by asked.due reply.ok) reply skills)
noted_of_read lesson notes (Some asked) (Some (Err shown)) skills = notes
noted_of_read lesson notes (Some asked) None skills = notes
noted_of_read lesson notes None read skills = notes

-- bytes are heard by the exam, be the engine up or not
pub record IsHeard (old : Exam) (bytes : List ℕ) (heard : Hearing) (new : Exam) : Type 0 where
  pub up : old.up ≡ true → Hears old bytes heard new
  pub down : old.up ≡ false → HearsDown old bytes heard.used heard.finding new

-- what is kept of what the engine wrote, these bytes too: nothing after a whole reply
abbrev pub kept_after : List ℕ → List ℕ → Bool → List ℕ
kept_after wrote bytes is_read = if is_read then [] else take most_shown (wrote ++ bytes)

-- The first reply in the bytes was heard, or all of them where none ends in them, and nothing was found. What is left of
-- them is held.
pub record IsHeardQuietly {P : Type 0} (bytes : List ℕ) (before after : Dialogue P) : Type 0 where
  pub used : ℕ
  pub read : Option (Result Reply ReplyFault)
  pub heard : IsHeard before.exam bytes (hearing used read None) after.exam
  pub wrote : after.wrote ≡ kept_after before.wrote (take used bytes) (is_some read)
  pub notes : after.notes ≡ noted_of_read (owed_purpose before.talk before.exam).lesson before.notes
      (oldest before.exam.unanswered) read after.exam.skills
  pub rest : after.held ≡ drop used bytes
  pub leads : after ≡ record before {
    exam = after.exam;
    held = after.held;
    wrote = after.wrote;
    notes = after.notes;
  }

-- The bytes up to the end of the line in which the last of so many is, with its newline, as far as they are there. Where
-- that byte is the newline at the end of a reply, these are just so many; and where it shows that this is no reply, the
-- rest of its line is among them.
abbrev pub through_line : ℕ → List ℕ → List ℕ
through_line used bytes = take (used - 1 + (position_or_len is_newline (drop (used - 1) bytes) + 1)) bytes

-- In the bytes something wrong was found. What is kept of them goes to the end of the line in which it was.
pub record IsFoundIn {P : Type 0} (bytes : List ℕ) (before : Dialogue P) (fault : Fault) (after : Dialogue P)
    : Type 0 where
  pub used : ℕ
  pub read : Option (Result Reply ReplyFault)
  pub finding : Finding
  pub found : IsHeard before.exam bytes (hearing used read (Some finding)) after.exam
  pub wrote : after.wrote ≡ take most_shown (before.wrote ++ through_line used bytes)
  pub kind : fault ≡ Wrote finding.kind
  pub leads : after ≡ record before { exam = after.exam; wrote = after.wrote }

-- the bytes were heard, and this is what is wrong with them, if anything
abbrev pub AreHeard : {P : Type 0} → List ℕ → Dialogue P → Option Fault → Dialogue P → Type 0
AreHeard bytes before None after = IsHeardQuietly bytes before after
AreHeard bytes before (Some fault) after = IsFoundIn bytes before fault after

-- ---- an exchange

-- this chunk was written to a process whole, and nothing waits to be flushed
pub record IsWrittenWhole {P : Type 0} (known : Ghosts P) (piece : List ℕ) (before after : P) : Type 0 where
  pub taken : Appends (known.taken before) (known.taken after) piece
  pub unbroken : IsUnbroken known.fails known.succeeds before after
  pub flushed : known.flushed after
  pub given : Keeps (known.given before) (known.given after)

-- a process was cut off, and took a beginning of the chunk
pub record IsWrittenInPart {P : Type 0} (known : Ghosts P) (piece : List ℕ) (before after : P) : Type 0 where
  pub taken : TakesPart piece (known.taken before) (known.taken after)
  pub cut_off : IsCutOff known.fails known.succeeds before after
  pub given : Keeps (known.given before) (known.given after)

-- A process was sent chunks, one after the other. It took each of them whole. Or it was cut off in one, and was sent
-- none after that.
pub data PiecesAreSent {P : Type 0} (known : Ghosts P) : List (List ℕ) → P → P → Type 0 where
  no_piece : {before : P} → PiecesAreSent known [] before before
  whole : {pieces : List (List ℕ)} {before mid after : P} (piece : List ℕ) → IsWrittenWhole known piece before mid
      → PiecesAreSent known pieces mid after → PiecesAreSent known (piece ∷ pieces) before after
  part : {pieces : List (List ℕ)} {before after : P} (piece : List ℕ) → IsWrittenInPart known piece before after
      → PiecesAreSent known (piece ∷ pieces) before after

-- how many bytes are sent later, where the last line is sent in two chunks: its newline, and the byte before that
abbrev pub later_bytes : ℕ
later_bytes = 2

-- all lines at once, or all but the last two bytes of them, and then these
abbrev pub two_pieces : List ℕ → List (List ℕ)
two_pieces lines = take (length lines - later_bytes) lines ∷ drop (length lines - later_bytes) lines ∷ []

abbrev pub pieces_of : Bool → List ℕ → List (List ℕ)
pieces_of in_pieces [] = []
pieces_of in_pieces (byte ∷ more) =
    if in_pieces then two_pieces (byte ∷ more) else (byte ∷ more) ∷ []

-- A process was sent lines, if there were any: at once, or the last of them in two chunks. Before the second chunk it
-- had time to read the first.
abbrev pub IsSent : {P : Type 0} → Ghosts P → Bool → List ℕ → P → P → Type 0
IsSent known in_pieces lines before after = PiecesAreSent known (pieces_of in_pieces lines) before after

-- An engine was read. What its process gives, a byte at least, is heard. Or its output ended, or it was cut off, and it
-- gave nothing. It was sent nothing.
pub data IsRead {P : Type 0} (known : Ghosts P) (before : Dialogue P) : Option Fault → Dialogue P → Type 0 where
  gives : {fault : Option Fault} {after : Dialogue P} (bytes : List ℕ) (process : P)
      → 0 < length bytes → Appends (known.given before.process) (known.given process) bytes
      → IsUnbroken known.fails known.succeeds before.process process
      → Keeps (known.taken before.process) (known.taken process)
      → AreHeard bytes (record before { process = process }) fault after
      → IsRead known before fault after
  ends : (process : P)
      → OutputEnded known.fails known.succeeds known.runs_out before.process process
      → Keeps (known.given before.process) (known.given process)
      → Keeps (known.taken before.process) (known.taken process)
      → IsRead known before (Some (CutOff Ended)) (record before { process = process })
  breaks : (process : P)
      → IsCutOff known.fails known.succeeds before.process process
      → Keeps (known.given before.process) (known.given process)
      → Keeps (known.taken before.process) (known.taken process)
      → IsRead known before (Some (CutOff Reading)) (record before { process = process })

-- What an engine owes is heard, and this is what is wrong with it, if anything. What is held is heard first. Else what
-- waits is sent, and the engine is read. One that owes nothing isn't read.
pub data IsExchanged {P : Type 0} (known : Ghosts P) (before : Dialogue P)
    : Option Fault → Dialogue P → Type 0 where
  owes_nothing : (process : P) → length before.exam.unanswered ≡ 0
      → IsSent known (ends_in_pieces before.talk) before.waiting before.process process
      → IsExchanged known before None (record before { process = process; waiting = [] })
  held : {fault : Option Fault} {after : Dialogue P} → 0 < length before.exam.unanswered
      → 0 < length before.held
      → AreHeard before.held (record before { held = [] }) fault after
      → IsExchanged known before fault after
  reads : {fault : Option Fault} {after : Dialogue P} (process : P) → 0 < length before.exam.unanswered
      → length before.held ≡ 0
      → IsSent known (ends_in_pieces before.talk) before.waiting before.process process
      → IsRead known (record before { process = process; waiting = [] }) fault after
      → IsExchanged known before fault after

-- ---- a conversation

-- A conversation with an engine, from this point on: commands were asked, whose lines are sent with the next exchange,
-- and nothing was found.
pub data Converses {P : Type 0} (known : Ghosts P) (start : Dialogue P) : Dialogue P → Type 0 where
  begins : Converses known start start
  asks : {before after : Dialogue P} (purpose : Purpose) (command : CheckCommand)
      → Converses known start before → IsAsked purpose before command after → Converses known start after
  exchanges : {before after : Dialogue P}
      → Converses known start before → IsExchanged known before None after → Converses known start after

-- it ended with something wrong
pub record EndsWrong {P : Type 0} (known : Ghosts P) (start : Dialogue P) (fault : Fault) (after : Dialogue P)
    : Type 0 where
  pub before : Dialogue P
  pub converses : Converses known start before
  pub exchanged : IsExchanged known before (Some fault) after

-- so a conversation ended: with something wrong, or without
abbrev pub EndsSo : {P : Type 0} → Ghosts P → Dialogue P → Option Fault → Dialogue P → Type 0
EndsSo known start None after = Converses known start after
EndsSo known start (Some fault) after = EndsWrong known start fault after

-- The same, where no command was asked that is left out in the game.
pub data Spares {P : Type 0} (known : Ghosts P) (unasked : Unasked) (start : Dialogue P) : Dialogue P → Type 0 where
  begins_so : Spares known unasked start start
  asks_so : {before after : Dialogue P} (purpose : Purpose) (command : CheckCommand)
      → Spares known unasked start before → ¬ IsLeftOut unasked before.exam.game command
      → IsAsked purpose before command after → Spares known unasked start after
  exchanges_so : {before after : Dialogue P}
      → Spares known unasked start before → IsExchanged known before None after → Spares known unasked start after

-- such a conversation ended with something wrong
pub record SparesToEnd {P : Type 0} (known : Ghosts P) (unasked : Unasked) (start : Dialogue P) (fault : Fault)
    (after : Dialogue P) : Type 0 where
  pub before : Dialogue P
  pub spares : Spares known unasked start before
  pub exchanged : IsExchanged known before (Some fault) after

-- so it ended: with something wrong, or without
abbrev pub EndsSparing : {P : Type 0} → Ghosts P → Unasked → Dialogue P → Option Fault → Dialogue P → Type 0
EndsSparing known unasked start None after = Spares known unasked start after
EndsSparing known unasked start (Some fault) after = SparesToEnd known unasked start fault after

-- ---- a conversation that ended with something wrong

-- What is wrong, how many commands were answered before, the lines of all that the engine was asked, how many bytes of
-- them were sent, the commands, what it wrote since its last whole reply, and how its process ended.
pub record Wrong : Type 0 where
  pub fault : Fault
  pub answered : ℕ
  pub sent : List ℕ
  pub delivered : ℕ
  pub talk : List Said
  pub wrote : List ℕ
  pub ending : Ending

abbrev pub wrong_of : Tried → Wrong
wrong_of tried = record {
  fault = tried.fault;
  answered = tried.answered;
  sent = tried.said.sent.items;
  delivered = tried.said.delivered;
  talk = tried.said.talk.items;
  wrote = tried.said.wrote.items;
  ending = tried.said.ending;
}

-- what is wrong with this engine, whose process ended so
abbrev pub wrong_with : {P : Type 0} → Fault → Dialogue P → Ending → Wrong
wrong_with fault engine ending = record {
  fault = fault;
  answered = length engine.talk - length engine.exam.unanswered;
  sent = engine.sent;
  delivered = delivered engine;
  talk = engine.talk;
  wrote = engine.wrote;
  ending = ending;
}

-- what was asked up to and with the command that was answered wrongly
abbrev pub wrong_talk : Wrong → List Said
wrong_talk wrong = take (wrong.answered + 1) wrong.talk

-- what the command that was answered wrongly was asked for
abbrev pub wrong_purpose : Wrong → Purpose
wrong_purpose wrong = purpose_of (slice_get wrong.talk wrong.answered)

-- the command that was answered wrongly
abbrev pub wrong_command : Wrong → Option CheckCommand
wrong_command wrong = option_map (λ said. said.command) (slice_get wrong.talk wrong.answered)

-- it ended with the same fault in the answer to the same command
pub record EndsLike (one other : Wrong) : Type 0 where
  pub fault : one.fault ≡ other.fault
  pub command : wrong_command one ≡ wrong_command other

-- ---- a trial

-- Programs were asked for, each by this command line.
pub data AsksForMore {P : Type 0} (line : List Text) (before : Attempts P) : Attempts P → Type 0 where
  none : AsksForMore line before before
  one_more : {mid after : Attempts P} (answer : Result P StartFault) → AsksForMore line before mid
      → Tries mid after line answer → AsksForMore line before after

-- all was asked for this purpose
abbrev pub AreFor : Purpose → List Said → Type 0
AreFor purpose talk = All (λ said. said.purpose ≡ purpose) talk

-- an engine was asked the first of these commands, in their order, each for this purpose
pub record AsksFirst (purpose : Purpose) (commands : List CheckCommand) (talk : List Said) : Type 0 where
  pub order : commands_of talk ≡ take (length talk) commands
  pub purposes : AreFor purpose talk

-- The command may not be asked in this game, or is left out.
abbrev pub IsHeldBack : Unasked → Exam → CheckCommand → Type 0
IsHeldBack unasked exam command = (¬ HasRoomFor exam command) ⊎ IsLeftOut unasked exam.game command

-- what is tried: these commands, each for this purpose, on an engine that is asked for by this command line; and
-- what isn't asked
pub record Trial : Type 0 where
  pub line : List Text
  pub purpose : Purpose
  pub commands : List CheckCommand
  pub unasked : Unasked

abbrev pub trial : List Text → Purpose → List CheckCommand → Unasked → Trial
trial line purpose commands unasked = record {
  line = line;
  purpose = purpose;
  commands = commands;
  unasked = unasked;
}

abbrev pub trial_of : TrialOfCommands → Trial
trial_of tries = trial (program_line tries.words.now) tries.purpose tries.commands.now tries.unasked

-- An engine that is up was asked all of the commands. Or it was asked the first of them, and the next one may not be
-- asked in this game, or is left out. It was sent all that it was asked, and has answered it.
pub record AsksAll {P : Type 0} (tries : Trial) (engine : Dialogue P) : Type 0 where
  pub first : AsksFirst tries.purpose tries.commands engine.talk
  pub next : IfSome (slice_get tries.commands (length engine.talk)) (IsHeldBack tries.unasked engine.exam)
  pub up : engine.exam.up ≡ true
  pub sent : engine.waiting ≡ []
  pub answered : engine.exam.unanswered ≡ []

-- between two trials: the check of all engines, the starts that were asked for, and what is noted
pub record Standing (P : Type 0) : Type 0 where
  pub check : Check
  pub asked : Attempts P
  pub notes : Notes

abbrev pub standing : {P : Type 0} → Check → Attempts P → Notes → Standing P
standing check asked notes = record { check = check; asked = asked; notes = notes }

-- an engine was started, and was lost or ended with this exam
abbrev pub ended_with : Check → Exam → Check
ended_with check exam = after_loss (with_exam (started check) exam)

-- A conversation was tried. The engine wasn't started. Or it was, and answered all of the commands rightly, as far as
-- they may be asked and aren't left out. Or it was asked the first of them, and then this was wrong. None that it was
-- asked is left out. Its process was ended.
pub data IsTrial {P : Type 0} (known : Ghosts P) (tries : Trial) (before : Standing P)
    : Option Wrong → Standing P → Type 0 where
  unstarted : {has : Attempts P} (reason : StartReason)
      → Tries before.asked has tries.line (Err (start_fault.NotStarted reason))
      → IsTrial known tries before None (record before { asked = has })
  right : {has : Attempts P} {engine : Dialogue P} (process : P) (ending : Ending)
      → Tries before.asked has tries.line (Ok process)
      → Spares known tries.unasked (begun_with (started before.check).exam process before.notes) engine
      → AsksAll tries engine → known.leaves engine.process ending
      → IsTrial known tries before None (standing (ended_with before.check engine.exam) has engine.notes)
  wrong : {has : Attempts P} {engine : Dialogue P} (process : P) (ending : Ending) (fault : Fault)
      → Tries before.asked has tries.line (Ok process)
      → SparesToEnd known tries.unasked (begun_with (started before.check).exam process before.notes) fault engine
      → AsksFirst tries.purpose tries.commands engine.talk → known.leaves engine.process ending
      → IsTrial known tries before (Some (wrong_with fault engine ending))
      (standing (ended_with before.check engine.exam) has engine.notes)
