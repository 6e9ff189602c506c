-- Laws of a whole check: what holds of each turn of it, and of its end. (Own.)
use Rattle.std.specs.Prelude.{◌≡◌, ◌⊎◌, ⊤, ℕ, ◌<◌, ◌≤◌, Bool, true, false, All, List, [], ◌∷◌, ◌++◌, length, slice_get}
use Rattle.std.specs.Prelude.{Option, None, Some, option_map, Ok}
use Rattle.byte_streams.specs.Writing.{AreFlushed}
use Rattle.go_board.specs.declared.rules.KoRule.{KoRule}
use Rattle.gtp_process.specs.declared.causes.PipeCause.{PipeCause}
use Rattle.gtp_process.specs.declared.starter.Ending.{Ending}
use Rattle.gtp_process.specs.declared.starter.Process.{Ghosts}
use Rattle.gtp_process.specs.Starts.{Attempt, Attempts, program_line}
use Rattle.gtp_check_judge.specs.declared.asking.CheckCommand.{CheckCommand}
use Rattle.gtp_check_judge.specs.declared.judging.Kind.{Kind}
use Rattle.gtp_check_judge.specs.Exam.{begun}
use Rattle.gtp_check_course.specs.declared.lessons.Lesson.{Lesson}
use Rattle.gtp_check_app.specs.declared.complaining.Caption.{Caption}
use Rattle.gtp_check_texts.specs.Complaints.{complaint_lines}
use Rattle.gtp_check_texts.specs.declared.complaint.Complaint.{Complaint}
use Rattle.gtp_check_talk.specs.declared.fault.Fault.{Fault}
use Rattle.gtp_check_talk.specs.declared.fault.Fault.TheVariants.{CutOff, Wrote}
use Rattle.gtp_check_talk.specs.declared.engine.Engine.{Engine}
use Rattle.gtp_check_talk.specs.declared.notes.Notes.{Notes}
use Rattle.gtp_check_talk.specs.Dialogues.{Dialogue, EndsSo, Wrong, begun_with, dialogue, wrong_with}
use Rattle.gtp_check_talk.specs.Laws.{IsLost, IsMoveAnswered, IsRightlyAnswered, IsWronglyWritten}
use Rattle.gtp_check_course.specs.declared.plan.Plan.{Plan}
use Rattle.gtp_check_app.specs.declared.streams.Streams.{Streams}
use Rattle.gtp_check_app.specs.Progress.{IsShown}
use Rattle.gtp_process.specs.Starts.{Text}
use Rattle.cli.specs.Status.{done}
use Rattle.gtp_check_texts.specs.declared.summary.Over.{Over}
use Rattle.gtp_check_app.specs.Checks.{AsksForList, AsksForPlan, HasRun}
use Rattle.gtp_check_app.specs.Laws.{IsPass}
use Rattle.gtp_check_app.specs.Options.{AsksForText}
use Rattle.gtp_check_app.specs.Status.{not_earned, something_found}
use Rattle.gtp_check_app.specs.Unjudged.{is_blamed}
use Rattle.gtp_check_app.specs.Sequence.{Beginning, Known, Point, Turns, beginning, first_point}
use Rattle.gtp_check_app.specs.Turns.{Closes, IsComplaint, IsOver, Moment, State, Turn, moment}

-- ---- a check and its turns

-- so many turns lead from one point to another
abbrev pub Leads : {P O E : Type 0} → Known P O E → Beginning P O E → Point P O E → ℕ → Point P O E → Type 0
Leads known begins from count to = Turns known begins.plan from count to

-- a check comes to this point
pub record ComesTo {P O E : Type 0} (known : Known P O E) (begins : Beginning P O E) (now : Point P O E)
    : Type 0 where
  pub count : ℕ
  pub turns : Leads known begins (first_point begins) count now

-- A turn of a check, and what is written in it.
pub record TurnOf {P O E : Type 0} (known : Known P O E) (begins : Beginning P O E) (before after : Point P O E)
    : Type 0 where
  pub texts : List (List ℕ)
  pub shows : List (List ℕ)
  pub turn : Turn known.processes begins.plan before.now after.now texts shows
  pub flushed : AreFlushed known.outs texts before.streams.output after.streams.output
  pub shown : IsShown known.errs begins.plan.shows_progress shows before.streams.errors after.streams.errors

-- A turn of a check that comes to this point: the turns before it, and those after it.
pub record HasTurn {P O E : Type 0} (known : Known P O E) (begins : Beginning P O E) (last : Point P O E)
    : Type 0 where
  pub before : Point P O E
  pub after : Point P O E
  pub comes : ComesTo known begins before
  pub is : TurnOf known begins before after
  pub more : ℕ
  pub goes_on : Leads known begins after more last

-- ---- what was found in a turn

-- what was wrong with what was heard in a turn, if anything
abbrev pub fault_in : {P : Type 0} {known : Ghosts P} {plan : Plan} {before after : Moment P}
    {texts shows : List (List ℕ)} → Turn known plan before after texts shows → Option Fault
fault_in (Turn.starts process steps next fruitful may tries quits fresh) = None
fault_in (Turn.restarts steps next quits) = None
fault_in (Turn.kills steps next ended) = None
fault_in (Turn.exchanges {fault = fault} heard first complains) = fault

-- ---- the starts of a check

-- The command line by which a check has to start its engines, and the starts that were asked for: before the check, and
-- up to a point of it.
pub record Starts (P : Type 0) : Type 0 where
  pub line : List Text
  pub before : Attempts P
  pub after : Attempts P

abbrev pub starts_of : {P : Type 0} → Plan → Attempts P → Attempts P → Starts P
starts_of plan before after =
    record { line = program_line plan.words.items; before = before; after = after }

-- One of the attempts that were made in between was by this command line, the whole of it, and it started this process.
pub record IsAmong {P : Type 0} (line : List Text) (process : P) (before after : List (Attempt P)) : Type 0 where
  pub earlier : List (Attempt P)
  pub later : List (Attempt P)
  pub is : after ≡ before ++ earlier ++ record { line = line; answer = Ok process } ∷ later

-- the same, where the attempts are known
abbrev pub IsStartedBy : {P : Type 0} → List Text → P → Attempts P → Attempts P → Type 0
IsStartedBy line process None after = ⊤
IsStartedBy line process (Some before) None = ⊥
IsStartedBy line process (Some before) (Some after) = IsAmong line process before after

-- the check started this process, by its command line
abbrev pub IsStarted : {P : Type 0} → Starts P → P → Type 0
IsStarted starts process = IsStartedBy starts.line process starts.before starts.after

-- ---- the engine of a check

-- An engine was started by the check, and what it was asked and what was heard since then are one conversation under
-- this ko rule, in which so far this is wrong, if anything.
pub record IsHeldWith {P : Type 0} (known : Ghosts P) (rule : KoRule) (starts : Starts P) (fault : Option Fault)
    (end : Dialogue P) : Type 0 where
  pub process : P
  pub started : IsStarted starts process
  pub first : Notes
  pub ends : EndsSo known (begun_with (begun rule true) process first) fault end

-- Where a check has an engine, that was started by this check, and each answer that was heard of it is a right one.
pub record AnswersRightly {P : Type 0} (known : Ghosts P) (rule : KoRule) (starts : Starts P) (end : Dialogue P)
    : Type 0 where
  pub held : IsHeldWith known rule starts None end
  pub right : IsRightlyAnswered known rule held.process end

-- ---- silence

-- Where nothing was found so far, nothing that is judged was wrong in any turn. And at each point of a check, each answer that
-- was heard of its engine, since that was started, is a right one.
pub record SilentChecksAreRight {P O E : Type 0} (known : Known P O E) : Type 0 where
  pub no_fault : (begins : Beginning P O E) (last : Point P O E) → last.now.state.tally.complaints ≡ 0
      → (has : HasTurn known begins last) → is_blamed begins.plan.unasked (fault_in has.is.turn) ≡ false
  pub right : (begins : Beginning P O E) (now : Point P O E) (engine : Engine P) → ComesTo known begins now
      → now.now.state.engine ≡ Some engine
      → AnswersRightly known.processes begins.plan.rule (starts_of begins.plan begins.asked now.now.asked)
      (dialogue engine now.now.state.check.exam now.now.state.notes)

-- ---- complaints

-- What a fault is that was found in all that an engine wrote: a wrong answer, which no right engine gives, and before
-- which all were right; or a loss, which shows no wrong answer.
pub data IsShownBy {P : Type 0} (known : Ghosts P) (rule : KoRule) (process : P)
    : Fault → Dialogue P → Type 0 where
  wrongly : {kind : Kind} {end : Dialogue P} → IsWronglyWritten known rule process kind end
      → IsShownBy known rule process (Wrote kind) end
  lost : {cause : PipeCause} {end : Dialogue P} → IsLost known rule process cause end
      → IsShownBy known rule process (CutOff cause) end

-- This ended a conversation under this ko rule with an engine that the check started by its command line, and then the
-- engine's process ended.
pub record IsGrounded {P : Type 0} (known : Ghosts P) (rule : KoRule) (starts : Starts P) (wrong : Wrong)
    : Type 0 where
  pub process : P
  pub started : IsStarted starts process
  pub end : Dialogue P
  pub ending : Ending
  pub is : wrong ≡ wrong_with wrong.fault end ending
  pub left : known.leaves end.process ending
  pub shown : IsShownBy known rule process wrong.fault end

-- the command with which a conversation ended: the first of those asked that wasn't answered rightly, if there is one
abbrev pub last_command : Wrong → Option CheckCommand
last_command wrong = option_map (λ said. said.command) (slice_get wrong.talk wrong.answered)

-- Two conversations ended alike: the same is wrong, after the same command.
pub record EndAlike (one other : Wrong) : Type 0 where
  pub fault : one.fault ≡ other.fault
  pub command : last_command one ≡ last_command other

-- What an exchange of a turn came to: what was wrong, if anything, and the state in which that was found.
pub record Came (P : Type 0) : Type 0 where
  pub fault : Option Fault
  pub state : State P

-- what the exchange of a turn came to, if it has one
abbrev pub came_in : {P : Type 0} {known : Ghosts P} {plan : Plan} {before after : Moment P}
    {texts shows : List (List ℕ)} → Turn known plan before after texts shows → Option (Came P)
came_in (Turn.starts process steps next fruitful may tries quits fresh) = None
came_in (Turn.restarts steps next quits) = None
came_in (Turn.kills steps next ended) = None
came_in (Turn.exchanges {next = next} {fault = fault} heard first complains) =
    Some (record { fault = fault; state = next })

-- A text is that of a complaint of such a conversation. That is the one with the engine in which this was found, and
-- which was ended then, or a shorter one that ended like it.
pub record IsJustComplaint {P : Type 0} (known : Ghosts P) (rule : KoRule) (starts : Starts P) (came : Option (Came P))
    (text : List ℕ) : Type 0 where
  pub complaint : Complaint
  pub is : text ≡ complaint_lines complaint
  pub caption : Caption
  pub wrong : Wrong
  pub of : IsComplaint rule caption wrong complaint
  pub grounded : IsGrounded known rule starts wrong
  pub cause : Fault
  pub state : State P
  pub came_so : came ≡ Some (record { fault = Some cause; state = state })
  pub found : Wrong
  pub down : State P
  pub closed : Closes known cause state found down
  pub found_so : IsGrounded known rule starts found
  pub alike : EndAlike wrong found

-- the complaints that are written in a turn
abbrev pub complaints_in : {P : Type 0} {known : Ghosts P} {plan : Plan} {before after : Moment P}
    {texts shows : List (List ℕ)} → Turn known plan before after texts shows → List (List ℕ)
complaints_in (Turn.starts process steps next fruitful may tries quits fresh) = []
complaints_in (Turn.restarts steps next quits) = []
complaints_in (Turn.kills steps next ended) = []
complaints_in (Turn.exchanges {said = said} heard first complains) = said

-- Each complaint of a check is of one conversation with an engine since its start by the check's command line. It shows
-- a wrong answer or a loss, and ended like what was found in the turn.
abbrev pub EachComplaintIsJust : {P O E : Type 0} → Known P O E → Type 0
EachComplaintIsJust {P} {O} {E} known = (begins : Beginning P O E) (last : Point P O E)
    (has : HasTurn known begins last)
    → All (IsJustComplaint known.processes begins.plan.rule
    (starts_of begins.plan begins.asked has.after.now.asked) (came_in has.is.turn))
    (complaints_in has.is.turn)

-- ---- the status

-- A check is over, for this reason: from the last point to which its turns come.
pub record IsOverAt {P O E : Type 0} (known : Known P O E) (begins : Beginning P O E) (last : State P) : Type 0 where
  pub now : Point P O E
  pub comes : ComesTo known begins now
  pub why : Over
  pub has : Attempts P
  pub over : IsOver known.processes begins.plan now.now why (moment last has)

-- A check is over in which something was found. A complaint of it was written.
pub record HasComplained {P O E : Type 0} (known : Known P O E) (begins : Beginning P O E) : Type 0 where
  pub last : State P
  pub over : IsOverAt known begins last
  pub found : 0 < last.tally.complaints
  pub turn : HasTurn known begins over.now
  pub written : 0 < length (complaints_in turn.is.turn)

-- A `play` or a `genmove` of the lesson was answered rightly in a turn: nothing was found then.
abbrev pub IsAnsweredIn : {P : Type 0} {known : Ghosts P} {plan : Plan} {before after : Moment P}
    {texts shows : List (List ℕ)} → Lesson → Turn known plan before after texts shows → Type 0
IsAnsweredIn lesson (Turn.starts process steps next fruitful may tries quits fresh) = ⊥
IsAnsweredIn lesson (Turn.restarts steps next quits) = ⊥
IsAnsweredIn lesson (Turn.kills steps next ended) = ⊥
IsAnsweredIn lesson (Turn.exchanges {fault = fault} heard first complains) =
    (fault ≡ None)
    × IsMoveAnswered lesson heard.heard.engine.talk.items heard.mid.check.exam heard.heard.exam

-- A check that comes to this point had such a turn.
pub record HasAnswered {P O E : Type 0} (known : Known P O E) (begins : Beginning P O E) (last : Point P O E)
    (lesson : Lesson) : Type 0 where
  pub turn : HasTurn known begins last
  pub answered : IsAnsweredIn lesson turn.is.turn

-- A check that came to this point, and then was over so, has earned a pass: each lesson of the plan was asked to its
-- end, and in each there was a turn in which a `play` or a `genmove` of it was answered rightly.
pub record HasEarned {P O E : Type 0} (known : Known P O E) (begins : Beginning P O E) (now : Point P O E)
    (last : State P) : Type 0 where
  pub asked : length begins.plan.lessons.items ≤ last.course.place.lesson
  pub answered : All (HasAnswered known begins now) begins.plan.lessons.items

-- A check is over, and the engine has passed: nothing that is judged was wrong in any turn, and the pass is earned.
pub record HasPassed {P O E : Type 0} (known : Known P O E) (begins : Beginning P O E) : Type 0 where
  pub last : State P
  pub over : IsOverAt known begins last
  pub pass : IsPass begins.plan last
  pub earned : HasEarned known begins over.now last
  pub no_fault : (turn : HasTurn known begins over.now) → is_blamed begins.plan.unasked (fault_in turn.is.turn) ≡ false

-- A check is over, nothing that is judged was wrong in any turn, and a pass isn't earned: a lesson wasn't asked to its
-- end, or in one no `play` and no `genmove` was answered rightly in any turn.
pub record HasNotPassed {P O E : Type 0} (known : Known P O E) (begins : Beginning P O E) : Type 0 where
  pub last : State P
  pub over : IsOverAt known begins last
  pub no_pass : ¬ IsPass begins.plan last
  pub not_earned : ¬ HasEarned known begins over.now last
  pub no_fault : (turn : HasTurn known begins over.now) → is_blamed begins.plan.unasked (fault_in turn.is.turn) ≡ false

-- the words ask for a check, of which this holds
pub record AsksForCheck {P O E : Type 0} (words : List Text) (shows_progress : Bool) (asked : Attempts P)
    (streams : Streams O E) (Holds : Beginning P O E → Type 0) : Type 0 where
  pub plan : Plan
  pub asks : AsksForPlan words shows_progress plan
  pub holds : Holds (beginning plan asked streams)

-- What the program's status says: 1 that a complaint was written; 0 that the engine has passed, or that a text or the
-- list was asked for, and no engine; 4 that nothing was wrong and the pass isn't earned.
pub record StatusesSay {P O E : Type 0} (known : Known P O E) : Type 0 where
  pub found : (words : List Text) (shows_progress : Bool) (asked has : Attempts P) (streams after : Streams O E)
      → HasRun known words shows_progress asked streams something_found has after
      → AsksForCheck words shows_progress asked streams (HasComplained known)
  pub passed : (words : List Text) (shows_progress : Bool) (asked has : Attempts P) (streams after : Streams O E)
      → HasRun known words shows_progress asked streams done has after
      → AsksForCheck words shows_progress asked streams (HasPassed known) ⊎ AsksForText words ⊎ AsksForList words
  pub not_passed : (words : List Text) (shows_progress : Bool) (asked has : Attempts P) (streams after : Streams O E)
      → HasRun known words shows_progress asked streams not_earned has after
      → AsksForCheck words shows_progress asked streams (HasNotPassed known)
