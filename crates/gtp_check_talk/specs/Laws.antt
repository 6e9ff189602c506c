-- What is complained of is wrong, and what is said where nothing is found was answered rightly. (Own.)
use Rattle.std.specs.Prelude.{◌≡◌, ◌==◌, ◌⊎◌, ◌+◌, ◌-◌, ◌<◌, ℕ, true, List, [], ◌++◌, length, slice_get, Option, None}
use Rattle.std.specs.Prelude.{Some, Result}
use Rattle.std.specs.List.{IsDistinct}
use Rattle.std.specs.Io.KnownBytes.{Appends}
use Rattle.go_base.specs.declared.colours.Colour.{Colour}
use Rattle.go_base.specs.declared.moves.Move.{Move}
use Rattle.go_board.specs.declared.rules.KoRule.{KoRule}
use Rattle.gtp_wire.specs.declared.commands.Command.TheVariants.{Play, Genmove}
use Rattle.gtp_wire.specs.declared.replies.Reply.{Reply}
use Rattle.gtp_wire.specs.declared.replies.ReplyFault.{ReplyFault}
use Rattle.gtp_process.specs.declared.causes.PipeCause.{PipeCause}
use Rattle.gtp_process.specs.declared.causes.PipeCause.TheVariants.{Ended, Reading}
use Rattle.gtp_process.specs.declared.starter.Process.{Ghosts}
use Rattle.gtp_process.specs.Pipes.{IsCutOff, OutputEnded}
use Rattle.gtp_check_judge.specs.declared.asking.CheckCommand.{CheckCommand}
use Rattle.gtp_check_judge.specs.declared.asking.CheckCommand.TheVariants.{Match, PlayInFull, GenmoveInFull}
use Rattle.gtp_check_judge.specs.declared.exam.Exam.{Exam}
use Rattle.gtp_check_judge.specs.declared.exam.Finding.{Finding}
use Rattle.gtp_check_judge.specs.declared.judging.Kind.{Kind}
use Rattle.gtp_check_judge.specs.Exam.{Hears, begun, hearing}
use Rattle.gtp_check_judge.specs.Laws.{Exchange, IsJustified, IsRightSoFar, Talks}
use Rattle.gtp_check_course.specs.Lessons.{number_of}
use Rattle.gtp_check_course.specs.declared.lessons.Lesson.{Lesson}
use Rattle.gtp_check_talk.specs.declared.said.Purpose.{Purpose}
use Rattle.gtp_check_talk.specs.declared.said.Said.{Said}
use Rattle.gtp_check_talk.specs.declared.fault.Fault.{Fault}
use Rattle.gtp_check_talk.specs.declared.fault.Fault.TheVariants.{CutOff, Wrote}
use Rattle.gtp_check_talk.specs.Among.{is_among}
use Rattle.gtp_check_talk.specs.declared.notes.Notes.{Notes}
use Rattle.gtp_check_talk.specs.Notes.{nothing_noted, started}
use Rattle.gtp_check_talk.specs.Dialogues.{Converses, Dialogue, EndsSo, EndsWrong, IsAsked, IsExchanged, begun_with}

-- What was found in what an engine wrote. What it was asked and what was heard are a talk in which all answers were
-- right; then what was heard is a wrong answer, of this kind, and the finding is justified. What was heard is a front
-- of what the process gave since its start.
pub record IsWronglyWritten {P : Type 0} (known : Ghosts P) (rule : KoRule) (process : P) (kind : Kind)
    (after : Dialogue P) : Type 0 where
  pub came : List ℕ
  pub said : List Exchange
  pub old : Exam
  pub new : Exam
  pub bytes : List ℕ
  pub used : ℕ
  pub read : Option (Result Reply ReplyFault)
  pub finding : Finding
  pub talks : Talks rule after.sent came said old
  pub hears : Hears old bytes (hearing used read (Some finding)) new
  pub is : kind ≡ finding.kind
  pub justified : IsJustified rule said old read finding
  pub gave : Appends (known.given process) (known.given after.process) (came ++ bytes)

-- Whatever the engine is, what is found in what it wrote is justified.
abbrev pub ComplaintsAreJustified : {P : Type 0} → Ghosts P → Type 0
ComplaintsAreJustified {P} known = (rule : KoRule) (process : P) (first : Notes) (kind : Kind) (after : Dialogue P)
    → EndsWrong known (begun_with (begun rule true) process first) (Wrote kind) after
    → IsWronglyWritten known rule process kind after

-- ---- a conversation in which nothing was found

-- What is said with an engine that was started under this ko rule, as long as nothing is found. The engine is up. What
-- it was asked and what was heard are a talk in which each answer is a right one of the engine that those before it
-- leave, and what is unanswered was asked of the engine after them. What was heard, and then what is held, are all that
-- the process gave since its start.
pub record IsRightlyAnswered {P : Type 0} (known : Ghosts P) (rule : KoRule) (process : P) (now : Dialogue P)
    : Type 0 where
  pub up : now.exam.up ≡ true
  pub came : List ℕ
  pub said : List Exchange
  pub talks : Talks rule now.sent came said now.exam
  pub right : IsRightSoFar rule said now.exam
  pub gave : Appends (known.given process) (known.given now.process) (came ++ now.held)

abbrev pub SilenceSaysAllIsRight : {P : Type 0} → Ghosts P → Type 0
SilenceSaysAllIsRight {P} known = (rule : KoRule) (process : P) (first : Notes) (now : Dialogue P)
    → Converses known (begun_with (begun rule true) process first) now
    → IsRightlyAnswered known rule process now

-- ---- a loss

-- the last read of a process: its output ended at it, or the process was cut off
pub data BreaksOff {P : Type 0} (known : Ghosts P) (before after : P) : PipeCause → Type 0 where
  ended : OutputEnded known.fails known.succeeds known.runs_out before after → BreaksOff known before after Ended
  broke : IsCutOff known.fails known.succeeds before after → BreaksOff known before after Reading

-- An engine was lost while it owed an answer: then its output ended, or it was cut off. Each answer that it gave until
-- then was right. So a loss shows nothing wrong in what the engine wrote.
pub record IsLost {P : Type 0} (known : Ghosts P) (rule : KoRule) (process : P) (cause : PipeCause)
    (after : Dialogue P) : Type 0 where
  pub right : IsRightlyAnswered known rule process after
  pub owes : 0 < length after.exam.unanswered
  pub last : P
  pub breaks : BreaksOff known last after.process cause

abbrev pub LossesAreNoWrongAnswers : {P : Type 0} → Ghosts P → Type 0
LossesAreNoWrongAnswers {P} known = (rule : KoRule) (process : P) (first : Notes) (cause : PipeCause)
    (after : Dialogue P) → EndsWrong known (begun_with (begun rule true) process first) (CutOff cause) after
    → IsLost known rule process cause after

-- ---- the ko rule

-- whatever is said with an engine, its ko rule stays
abbrev pub KoRulesStay : {P : Type 0} → Ghosts P → Type 0
KoRulesStay {P} known = (start after : Dialogue P) (fault : Option Fault)
    → EndsSo known start fault after → after.exam.game.rule ≡ start.exam.game.rule

-- ---- moves that were answered

-- a command that asks for a move
pub data AsksForMove : CheckCommand → Type 0 where
  plays : (move : Move) → AsksForMove (Match (Play move))
  chooses : (colour : Colour) → AsksForMove (Match (Genmove colour))
  plays_in_full : (move : Move) → AsksForMove (PlayInFull move)
  chooses_in_full : (colour : Colour) → AsksForMove (GenmoveInFull colour)

-- Of these commands that an engine was asked a `play` or a `genmove` of the lesson was answered: it was the oldest that
-- wasn't, and then it was.
pub record IsMoveAnswered (lesson : Lesson) (talk : List Said) (old new : Exam) : Type 0 where
  pub said : Said
  pub owed : slice_get talk (length talk - length old.unanswered) ≡ Some said
  pub lesson_is : number_of said.purpose.lesson ≡ number_of lesson
  pub asks : AsksForMove said.command
  pub answered : length new.unanswered + 1 ≡ length old.unanswered

-- no lesson is noted twice
abbrev pub AreNotedOnce : Notes → Type 0
AreNotedOnce notes = IsDistinct (λ one other. number_of one == number_of other) notes.answered.items

-- A lesson is noted just where a `play` or a `genmove` that was asked in it was answered rightly: nothing was found
-- then. At first none is noted. By a start, and by a command that is asked, no lesson is noted. Each is noted once, and
-- stays so, whatever is heard.
pub record MovesAreNotedOnceAnswered {P : Type 0} (known : Ghosts P) : Type 0 where
  pub at_first : nothing_noted.answered.items ≡ []
  pub starts : (notes : Notes) → (started notes).answered ≡ notes.answered
  pub asked : (purpose : Purpose) (before : Dialogue P) (command : CheckCommand) (after : Dialogue P)
      → IsAsked purpose before command after
      → after.notes.answered ≡ before.notes.answered
  pub heard : (rule : KoRule) (process : P) (first : Notes) (before : Dialogue P) (fault : Option Fault)
      (after : Dialogue P) (lesson : Lesson)
      → Converses known (begun_with (begun rule true) process first) before
      → IsExchanged known before fault after → is_among after.notes.answered.items lesson ≡ true
      → (is_among before.notes.answered.items lesson ≡ true)
      ⊎ ((fault ≡ None) × IsMoveAnswered lesson before.talk before.exam after.exam)
  pub answered : (rule : KoRule) (process : P) (first : Notes) (before after : Dialogue P) (lesson : Lesson)
      → Converses known (begun_with (begun rule true) process first) before → AreNotedOnce before.notes
      → IsExchanged known before None after → IsMoveAnswered lesson before.talk before.exam after.exam
      → is_among after.notes.answered.items lesson ≡ true
  pub once : (before : Dialogue P) (fault : Option Fault) (after : Dialogue P) → IsExchanged known before fault after
      → AreNotedOnce before.notes → AreNotedOnce after.notes
  pub stays : (before : Dialogue P) (fault : Option Fault) (after : Dialogue P) (lesson : Lesson)
      → IsExchanged known before fault after → is_among before.notes.answered.items lesson ≡ true
      → is_among after.notes.answered.items lesson ≡ true
