-- A check, turn by turn: what the engine is asked, when it is started and ended, and what is written. (Own.)
use Rattle.std.specs.Prelude.{IsTrue, ◌↔◌, ◌≡◌, ◌⊎◌, ℕ, ◌+◌, ◌<◌, ◌≤◌, Bool, true, false, not, ◌&&◌, ◌||◌, List, []}
use Rattle.std.specs.Prelude.{◌∷◌, ◌++◌, if◌then◌else◌, length, nat_lt}
use Rattle.std.specs.Prelude.{Option, None, Some, IfSome, is_some, option_map, unwrap_or, Ok, Err}
use Rattle.gtp_process.specs.declared.starter.Process.{Ghosts}
use Rattle.gtp_process.specs.declared.starter.Ending.{Ending}
use Rattle.gtp_process.specs.declared.starter.StartFault.TheVariants as start_fault
use Rattle.gtp_process.specs.declared.starter.StartReason.{StartReason}
use Rattle.gtp_process.specs.Endings.{IsEnded}
use Rattle.gtp_process.specs.Quitting.{QuitsIfAny}
use Rattle.gtp_process.specs.Shown.{unstarted}
use Rattle.gtp_process.specs.Starts.{Attempts, Tries, program_line}
use Rattle.gtp_check_judge.specs.declared.asking.CheckCommand.{CheckCommand}
use Rattle.gtp_check_judge.specs.declared.asking.CheckCommand.TheVariants.{Name}
use Rattle.gtp_check_judge.specs.declared.exam.Exam.{Exam}
use Rattle.gtp_check_judge.specs.declared.judging.Kind.TheVariants.{Refused}
use Rattle.go_board.specs.declared.rules.KoRule.{KoRule}
use Rattle.go_board.specs.declared.rules.KoRule.TheVariants.{Simple}
use Rattle.gtp_check_judge.specs.Check.{Check, after_loss, opening, started, with_exam}
use Rattle.gtp_check_judge.specs.Exam.{HasRoomFor}
use Rattle.gtp_check_course.specs.declared.actions.Action.{Action}
use Rattle.gtp_check_course.specs.declared.actions.Action.TheVariants.{Ask, Done, Kill, Restart, Skip, Start}
use Rattle.gtp_check_course.specs.declared.lessons.Lesson.{Lesson}
use Rattle.gtp_check_course.specs.declared.lessons.Lesson.TheVariants as lesson
use Rattle.gtp_check_course.specs.Asking.{IsTurn, Renews, lesson_of}
use Rattle.gtp_check_course.specs.Course.{Course, GoesTo, Leaves, begun, part_over, with_finding}
use Rattle.gtp_check_course.specs.Course.{IsOver as CourseIsOver}
use Rattle.gtp_check_app.specs.declared.check.Check.{Check as Going}
use Rattle.gtp_check_app.specs.declared.complaining.Caption.{Caption}
use Rattle.gtp_check_texts.specs.declared.complaint.Complaint.{Complaint}
use Rattle.gtp_check_talk.specs.declared.engine.Engine.{Engine}
use Rattle.gtp_check_talk.specs.declared.fault.Fault.{Fault}
use Rattle.gtp_check_talk.specs.declared.fault.Fault.TheVariants.{CutOff, Wrote}
use Rattle.gtp_check_texts.specs.declared.last_game.Shown.{Shown}
use Rattle.gtp_check_texts.specs.declared.last_game.Shown.TheVariants.{LastGame, Whole}
use Rattle.gtp_check_shortening.specs.declared.flat.Shortening.{Shortening}
use Rattle.gtp_check_talk.specs.declared.notes.Notes.{Notes}
use Rattle.gtp_check_course.specs.declared.plan.Plan.{Plan}
use Rattle.gtp_check_texts.specs.declared.summary.Over.{Over}
use Rattle.gtp_check_texts.specs.declared.summary.Over.TheVariants as over
use Rattle.gtp_check_talk.specs.declared.said.Purpose.{Purpose}
use Rattle.gtp_check_app.specs.declared.tally.Tally.{Tally}
use Rattle.gtp_check_texts.specs.Complaints.{complaint_lines}
use Rattle.gtp_check_talk.specs.Dialogues.{EndsLike, IsAsked, IsExchanged, IsTrial, Standing, Wrong, begun_with}
use Rattle.gtp_check_talk.specs.Dialogues.{dialogue, owed_purpose, standing, trial, wrong_purpose, wrong_talk}
use Rattle.gtp_check_talk.specs.Said.{is_same_lesson, is_same_purpose}
use Rattle.gtp_check_talk.specs.Dialogues.{wrong_with}
use Rattle.gtp_check_talk.specs.Notes.{nothing_noted}
use Rattle.gtp_check_talk.specs.Notes.{started as noted_start}
use Rattle.gtp_check_app.specs.Progress.{before_read, clearing, looking}
use Rattle.gtp_check_shortening.specs.Shortening.{shortened}
use Rattle.gtp_check_talk.specs.Said.{commands_of}
use Rattle.gtp_check_shortening.specs.Reduction.{Reduction, after_failure, after_success, next}
use Rattle.gtp_check_shortening.specs.Reduction.{begun as begun_reduction}
use Rattle.gtp_check_texts.specs.Summary.{first_line}
use Rattle.gtp_check_shortening.specs.Played.{played}
use Rattle.gtp_check_shortening.specs.Superko.{IsPositional, game_before}
use Rattle.gtp_check_app.specs.Unjudged.{HasPassedOver, is_blamed, is_unjudged}
use Rattle.gtp_check_app.specs.Trials.{LastGames, asked_for, left_by, limits_of, or_else, own_of, shortenings_of}
use Rattle.gtp_check_app.specs.Tally.{found, is_shown, nothing_found, started_again, with_unjudged}

-- how many turns a check has at most; no check within the limits has this number
abbrev pub most_turns : ℕ
most_turns = 1000000000000

-- after so many starts in a row without a right answer the check is over
abbrev pub most_unanswered_starts : ℕ
most_unanswered_starts = 3

-- a conversation of at most so many commands is shown whole, also where nothing shorter was found
abbrev pub most_whole : ℕ
most_whole = 40

-- How often engines are started at most: more often than by the course, after each of a thousand findings, and for a
-- thousand trials of each.
abbrev pub most_starts : ℕ
most_starts = 2000000

-- ---- between two turns

-- A check between two turns: the exam of its engine and the starts, the course, the engine, if one is there, and what
-- was found and noted so far.
pub record State (P : Type 0) : Type 0 where
  pub check : Check
  pub course : Course
  pub engine : Option (Engine P)
  pub tally : Tally
  pub notes : Notes

abbrev pub state : {P : Type 0} → Check → Course → Option (Engine P) → Tally → Notes → State P
state check course engine tally notes =
    record { check = check; course = course; engine = engine; tally = tally; notes = notes }

-- the state of a program's check, as its fields have it
abbrev pub state_of : {S P : Type 0} → Going S P → State P
state_of going = state going.examiner going.course going.engine going.tally going.notes

-- its engine was ended
abbrev pub without_engine : {P : Type 0} → State P → State P
without_engine before = record before { check = after_loss before.check; engine = None }

-- before the first turn
abbrev pub before_all : {P : Type 0} → Plan → State P
before_all plan = record {
  check = opening plan.rule most_starts;
  course = begun plan.lessons.items plan.scene_size plan.seed plan.unasked;
  engine = None;
  tally = nothing_found plan.restarts;
  notes = nothing_noted;
}

-- A check between two turns, and the starts that were asked for so far.
pub record Moment (P : Type 0) : Type 0 where
  pub state : State P
  pub asked : Attempts P

abbrev pub moment : {P : Type 0} → State P → Attempts P → Moment P
moment now asked = record { state = now; asked = asked }

-- what it has of this between two trials
abbrev pub standing_in : {P : Type 0} → Moment P → Standing P
standing_in now = standing now.state.check now.asked now.state.notes

-- the process of an engine, if there is one
abbrev pub process_of : {P : Type 0} → Option (Engine P) → Option P
process_of engine = option_map (λ one. one.process) engine

-- ---- what comes next in the course

-- what a course does next, of an engine with this exam, and the course after it
pub record IsNext (old : Course) (exam : Exam) (action : Action) (new : Course) : Type 0 where
  pub goes : GoesTo old exam action new
  pub over : CourseIsOver old → action ≡ Done
  pub starts : IfSome (lesson_of old) (λ lesson. exam.up ≡ false → action ≡ Start)
  pub rests : IfSome (lesson_of old) (λ lesson. exam.up ≡ true → (HasRoomFor exam Name → ⊥)
      → Renews lesson old exam action new)
  pub turns : IfSome (lesson_of old) (λ lesson. HasRoomFor exam Name → IsTurn lesson old exam action new)

-- the engine was lost: it was cut off while it owed an answer
abbrev pub is_loss : Fault → Bool
is_loss (Wrote kind) = false
is_loss (CutOff cause) = true

-- the rest of the part was left: something was found in it, a loss of the engine or something else
pub record HasLeft (is_loss : Bool) (old new : Course) : Type 0 where
  pub leaves : Leaves old new
  pub found : IfSome (lesson_of old) (λ lesson. new ≡ part_over lesson (with_finding is_loss old))

-- for what a command is asked now: the lesson and the part in which the course is
abbrev pub purpose_in : Course → Purpose
purpose_in course = record {
  lesson = unwrap_or (lesson_of course) lesson.Restarts;
  part = course.place.part;
}

-- Something was found in what was asked for this purpose: that part is left, if the course is in it. Where it is
-- another part of the lesson, it counts in that all the same.
pub record HasNoted (purpose : Purpose) (is_loss : Bool) (old new : Course) : Type 0 where
  pub leaves : is_same_purpose purpose (purpose_in old) ≡ true → HasLeft is_loss old new
  pub counts : is_same_purpose purpose (purpose_in old) ≡ false → is_same_lesson purpose (purpose_in old) ≡ true
      → new ≡ with_finding is_loss old
  pub stays : is_same_purpose purpose (purpose_in old) ≡ false → is_same_lesson purpose (purpose_in old) ≡ false
      → new ≡ old

-- the engine is asked a command, for this purpose
pub record AsksEngine {P : Type 0} (purpose : Purpose) (before : State P) (command : CheckCommand) (after : State P)
    : Type 0 where
  pub engine : Engine P
  pub had : before.engine ≡ Some engine
  pub exam : Exam
  pub now : Engine P
  pub notes : Notes
  pub asked : IsAsked purpose (dialogue engine before.check.exam before.notes) command (dialogue now exam notes)
  pub leads : after ≡ record before { check = with_exam before.check exam; engine = Some now; notes = notes }

-- Steps of the course were taken: each passed over one of its steps, or asked the engine a command, which isn't sent
-- yet. Where each command is asked alone, the one before was answered.
pub data Asks {P : Type 0} (singly : Bool) (before : State P) : State P → Type 0 where
  nothing : Asks singly before before
  passes : {mid : State P} (course : Course) → Asks singly before mid
      → IsNext mid.course mid.check.exam Skip course
      → Asks singly before (record mid { course = course })
  asks : {mid after : State P} (command : CheckCommand) (course : Course)
      → Asks singly before mid
      → IsNext mid.course mid.check.exam (Ask command) course
      → (singly ≡ true → length mid.check.exam.unanswered ≡ 0)
      → AsksEngine (purpose_in mid.course) (record mid { course = course }) command after
      → Asks singly before after

-- An engine may be started: not past the most starts, and after something was found only where a start is left.
pub record MayStart (check : Check) (tally : Tally) : Type 0 where
  pub few : check.starts < check.most_starts
  pub left : tally.is_after_fault ≡ true → 0 < tally.starts_left

-- The first line is due once the version is known, or something is wrong, and it isn't written.
abbrev pub is_first_due : Tally → Notes → Bool → Bool
is_first_due tally notes is_wrong = not tally.has_first_line && (is_wrong || is_some notes.version)

-- ---- progress on a terminal

-- before this engine, if one is there, is heard: what is waited for
abbrev pub waiting_for : {P : Type 0} → Plan → State P → Option (Engine P) → List (List ℕ)
waiting_for plan now None = []
waiting_for plan now (Some engine) =
    before_read plan.lessons.items now.check.starts (dialogue engine now.check.exam now.notes)

abbrev pub waiting : {P : Type 0} → Plan → State P → List (List ℕ)
waiting plan now = waiting_for plan now now.engine

-- ---- the text of a complaint

-- Positional ko explains what is wrong: by simple ko it was a wrong refusal, and by that rule a right one.
pub record IsExplained (rule : KoRule) (wrong : Wrong) : Type 0 where
  pub simple : rule ≡ Simple
  pub refused : wrong.fault ≡ Wrote Refused
  pub positional : IsPositional (played (wrong_talk wrong))

-- How much of a conversation is shown: all of one that was made shorter. Of another one all is shown where no trials
-- are made, or it is short enough; else its last game alone.
abbrev pub shown_of : ℕ → Option Wrong → Wrong → Shown
shown_of trials (Some shorter) found = Whole
shown_of trials None found =
    if nat_lt 0 trials && nat_lt most_whole (length (wrong_talk found)) then LastGame else Whole

-- what is said of a conversation: the number of the complaint, the lesson, and how much is shown
abbrev pub caption_of : ℕ → Lesson → Shown → Caption
caption_of number lesson shown = record { number = number; lesson = lesson; shown = shown }

-- A complaint with this caption is of a conversation that ended so, with an engine of this ko rule.
pub record IsComplaint (rule : KoRule) (caption : Caption) (wrong : Wrong) (complaint : Complaint) : Type 0 where
  pub number_is : complaint.number ≡ caption.number
  pub lesson_is : complaint.lesson ≡ caption.lesson
  pub shown_is : complaint.shown ≡ caption.shown
  pub fault : complaint.fault ≡ wrong.fault
  pub sent : complaint.sent.now ≡ wrong.sent
  pub delivered : complaint.delivered ≡ wrong.delivered
  pub talk : complaint.talk.now ≡ wrong.talk
  pub answered : complaint.answered ≡ wrong.answered
  pub wrote : complaint.wrote.now ≡ wrong.wrote
  pub ending : complaint.ending ≡ wrong.ending
  pub hint : IsTrue complaint.is_positional ↔ IsExplained rule wrong
  pub game : option_map (λ one. one.now) complaint.game ≡ game_before rule (played (wrong_talk wrong))

-- It was found in the lesson of that command.
abbrev pub found_in : {P : Type 0} → State P → Wrong → Fault → State P
found_in before wrong fault =
    record before { tally = found before.tally (wrong_purpose wrong).lesson fault }

module _ {P : Type 0} (known : Ghosts P) where
  -- What was asked was sent, and the engine was heard.
  pub record IsHeardOut (before : State P) (fault : Option Fault) (after : State P) : Type 0 where
    pub engine : Engine P
    pub had : before.engine ≡ Some engine
    pub exam : Exam
    pub heard : Engine P
    pub notes : Notes
    pub exchanged : IsExchanged known (dialogue engine before.check.exam before.notes) fault (dialogue heard exam notes)
    pub leads : after ≡ record before { check = with_exam before.check exam; engine = Some heard; notes = notes }

  -- The engine, in which this is wrong, was ended. The part is left in which the command was asked that it answered
  -- wrongly, if the course is in it still.
  pub record Closes (fault : Fault) (before : State P) (wrong : Wrong) (after : State P) : Type 0 where
    pub engine : Engine P
    pub had : before.engine ≡ Some engine
    pub ending : Ending
    pub ended : known.leaves engine.process ending
    pub is : wrong ≡ wrong_with fault (dialogue engine before.check.exam before.notes) ending
    pub course : Course
    pub notes : HasNoted (wrong_purpose wrong) (is_loss fault) before.course course
    pub leads : after ≡ record before { check = after_loss before.check; course = course; engine = None }

  -- The engine chose a move that isn't judged. It was ended, and that is counted. The part is left in which it was
  -- asked for the move, if the course is in it still.
  pub record PassesOver (before after : State P) : Type 0 where
    pub engine : Engine P
    pub had : before.engine ≡ Some engine
    pub ending : Ending
    pub ended : known.leaves engine.process ending
    pub course : Course
    pub left : HasPassedOver (is_same_purpose (owed_purpose engine.talk.items before.check.exam)
        (purpose_in before.course))
        before.course course
    pub leads : after ≡ record before {
      check = after_loss before.check;
      course = course;
      engine = None;
      tally = with_unjudged before.tally;
    }

module _ {P : Type 0} (known : Ghosts P) (plan : Plan) where
  -- ---- a shorter conversation

  -- These commands were asked of another engine, with what else is asked where an answer may have run on, for what the
  -- command was asked that was answered wrongly.
  pub data IsTried (found : Wrong) (commands : List CheckCommand) (before : Moment P)
      : Option Wrong → Moment P → Type 0 where
    by_trial : {result : Option Wrong} {after : Standing P}
        → IsTrial known
        (trial (program_line plan.words.items) (wrong_purpose found) (asked_for found commands) plan.unasked)
        (standing_in before)
        result after
        → IsTried found commands before result
        (moment (record before.state { check = after.check; notes = after.notes }) after.asked)

  -- They were tried in place of the conversation that was found: no start was left; or they ended otherwise, or like
  -- it.
  pub data TriesOne (found : Wrong) (commands : List CheckCommand) (before : Moment P)
      : Option Wrong → Moment P → Type 0 where
    no_start : (before.state.check.starts < before.state.check.most_starts → ⊥)
        → TriesOne found commands before None before
    right : {after : Moment P} → before.state.check.starts < before.state.check.most_starts
        → IsTried found commands before None after → TriesOne found commands before None after
    other : {tried : Wrong} {after : Moment P} → before.state.check.starts < before.state.check.most_starts
        → IsTried found commands before (Some tried) after → (EndsLike tried found → ⊥)
        → TriesOne found commands before None after
    alike : {tried : Wrong} {after : Moment P} → before.state.check.starts < before.state.check.most_starts
        → IsTried found commands before (Some tried) after → EndsLike tried found
        → TriesOne found commands before (Some tried) after

  -- The last games of it were tried so, in this order, up to the first that ended like the one that was found.
  pub data Shortens (found : Wrong) : List Shortening → Moment P → LastGames → Moment P → Type 0 where
    none_left : {before : Moment P}
        → Shortens found [] before (record { ended = None; tried = 0; left = commands_of (wrong_talk found) }) before
    missed : {how : Shortening} {later : List Shortening} {before mid after : Moment P} {games : LastGames}
        → TriesOne found (shortened how (wrong_talk found)) before None mid → Shortens found later mid games after
        → Shortens found (how ∷ later) before (record games { tried = games.tried + 1 }) after
    shortened_so : {how : Shortening} {later : List Shortening} {before after : Moment P} {ended : Wrong}
        → TriesOne found (shortened how (wrong_talk found)) before (Some ended) after
        → Shortens found (how ∷ later) before
        (record { ended = Some ended; tried = 1; left = left_by found (shortened how (wrong_talk found)) ended }) after

  -- ---- delta debugging

  -- From a reduction on, conversations were tried as it says, each in place of the one that was found. The shortest that
  -- ended like it, if one did, and the reduction then.
  pub data Reduces (found : Wrong) (first : Reduction) (before : Moment P)
      : Reduction → Option Wrong → Moment P → Type 0 where
    begins : Reduces found first before first None before
    failed : {now : Reduction} {best : Option Wrong} {mid after : Moment P} (commands : List CheckCommand)
        → Reduces found first before now best mid → next now ≡ Some commands
        → TriesOne found commands mid None after
        → Reduces found first before (after_failure (length commands) now) best after
    succeeded : {now : Reduction} {best : Option Wrong} {mid after : Moment P} {tried : Wrong}
        (commands : List CheckCommand) → Reduces found first before now best mid → next now ≡ Some commands
        → TriesOne found commands mid (Some tried) after
        → Reduces found first before
        (after_success (own_of found commands tried.answered) (length commands) now) (Some tried) after

  -- It was reduced until nothing was left to try.
  pub data IsReduced (found : Wrong) (first : Reduction) (before : Moment P) : Option Wrong → Moment P → Type 0 where
    reduced : {last : Reduction} {best : Option Wrong} {after : Moment P}
        → Reduces found first before last best after → next last ≡ None → IsReduced found first before best after

  -- It was made shorter: to its last games, as far as one of these ends alike, and then by leaving out parts of its own
  -- commands. In all no more conversations were tried than the plan says.
  pub data IsShortened (found : Wrong) (before : Moment P) : Option Wrong → Moment P → Type 0 where
    both_ways : {games : LastGames} {best : Option Wrong} {mid after : Moment P}
        → Shortens found (shortenings_of plan.trials (wrong_talk found)) before games mid
        → IsReduced found (begun_reduction games.left
        (limits_of plan found (unwrap_or games.ended found) games.tried)) mid best after
        → IsShortened found before (or_else best games.ended) after

  -- ---- a complaint

  -- What is wrong with the engine, if anything, is complained of: with its own conversation, or with a shorter one that
  -- ended with the same; or not, where its like was shown often enough. A move that isn't judged is passed over.
  pub data Complains (before : Moment P) : Option Fault → Moment P → List (List ℕ) → Type 0 where
    nothing : Complains before None before []
    passed_over : {fault : Fault} {after : State P} → is_unjudged plan.unasked fault ≡ true
        → PassesOver known before.state after → Complains before (Some fault) (moment after before.asked) []
    hidden : {fault : Fault} {mid : State P} (wrong : Wrong) → is_unjudged plan.unasked fault ≡ false
        → Closes known fault before.state wrong mid → is_shown mid.tally fault ≡ false
        → Complains before (Some fault) (moment (found_in mid wrong fault) before.asked) []
    shown : {fault : Fault} {mid : State P} {after : Moment P} {shorter : Option Wrong} (wrong : Wrong)
        (complaint : Complaint) → is_unjudged plan.unasked fault ≡ false
        → Closes known fault before.state wrong mid → is_shown mid.tally fault ≡ true
        → IsShortened wrong (moment (found_in mid wrong fault) before.asked) shorter after
        → IsComplaint plan.rule
        (caption_of after.state.tally.complaints (wrong_purpose wrong).lesson (shown_of plan.trials shorter wrong))
        (unwrap_or shorter wrong) complaint
        → Complains before (Some fault) after (complaint_lines complaint ∷ [])

  -- The first line is written where it is due.
  pub data WritesFirst (before : State P) (is_wrong : Bool) : State P → List (List ℕ) → Type 0 where
    not_due : is_first_due before.tally before.notes is_wrong ≡ false → WritesFirst before is_wrong before []
    due : is_first_due before.tally before.notes is_wrong ≡ true
        → WritesFirst before is_wrong (record before { tally = record before.tally { has_first_line = true } })
        (first_line plan before.notes ∷ [])

  -- ---- a turn

  -- Steps of the course were taken, what was asked was sent, and the engine was heard.
  pub record Exchanges (before : State P) (fault : Option Fault) (after : State P) : Type 0 where
    pub mid : State P
    pub asks : Asks plan.singly before mid
    pub heard : IsHeardOut known mid fault after

  -- A turn takes steps of the course. Then it starts the engine; or it sends it `quit` and ends it, or ends it at
  -- once; or it sends what was asked, hears the engine, and writes what is due. These texts are written to the output,
  -- and these of the progress, in their order.
  pub data Turn (before : Moment P) : Moment P → List (List ℕ) → List (List ℕ) → Type 0 where
    starts : {mid : State P} {course : Course} {has : Attempts P} {engine : Engine P} (process : P)
        → Asks plan.singly before.state mid → IsNext mid.course mid.check.exam Start course
        → mid.notes.unanswered_starts < most_unanswered_starts → MayStart mid.check mid.tally
        → Tries before.asked has (program_line plan.words.items) (Ok process)
        → QuitsIfAny known (process_of mid.engine)
        → ((exam : Exam) (notes : Notes) → dialogue engine exam notes ≡ begun_with exam process notes)
        → Turn before (moment
        (state (started mid.check) course (Some engine) (started_again mid.tally) (noted_start mid.notes)) has) [] []
    restarts : {mid : State P} {course : Course} → Asks plan.singly before.state mid
        → IsNext mid.course mid.check.exam Restart course
        → QuitsIfAny known (process_of mid.engine)
        → Turn before (moment (record mid { check = after_loss mid.check; course = course; engine = None })
        before.asked) [] []
    kills : {mid : State P} {course : Course} → Asks plan.singly before.state mid
        → IsNext mid.course mid.check.exam Kill course
        → IsEnded known (process_of mid.engine)
        → Turn before (moment (record mid { check = after_loss mid.check; course = course; engine = None })
        before.asked) [] []
    exchanges : {mid next : State P} {after : Moment P} {fault : Option Fault} {line said : List (List ℕ)}
        → (heard : Exchanges before.state fault mid) → WritesFirst mid (is_blamed plan.unasked fault) next line
        → Complains (moment next before.asked) fault after said
        → Turn before after (line ++ said) (waiting plan heard.mid ++ (clearing line ++ looking said))

  -- ---- why it is over

  -- Why a check is over, where its course does this next. Each lesson was asked, and no answer is waited for. Or the
  -- engine would be started: it was three times in a row, and gave no right answer; or no start is left; or it was
  -- asked for, and wasn't started.
  pub data IsOverBy (now : Moment P) : Action → Over → Attempts P → Type 0 where
    done : (now.state.check.exam.up ≡ false) ⊎ (length now.state.check.exam.unanswered ≡ 0)
        → IsOverBy now Done over.Done now.asked
    no_right_answer : most_unanswered_starts ≤ now.state.notes.unanswered_starts
        → IsOverBy now Start over.NoRightAnswer now.asked
    no_more_starts : now.state.notes.unanswered_starts < most_unanswered_starts
        → (MayStart now.state.check now.state.tally → ⊥)
        → IsOverBy now Start over.NoMoreStarts now.asked
    not_started : {has : Attempts P} (reason : StartReason) → now.state.notes.unanswered_starts < most_unanswered_starts
        → MayStart now.state.check now.state.tally
        → Tries now.asked has (program_line plan.words.items) (Err (start_fault.NotStarted reason))
        → IsOverBy now Start (over.NotStarted (unstarted (program_line plan.words.items) reason)) has

  -- the check is over, after steps of the course
  pub record IsOver (before : Moment P) (why : Over) (after : Moment P) : Type 0 where
    pub mid : State P
    pub asks : Asks plan.singly before.state mid
    pub action : Action
    pub course : Course
    pub next : IsNext mid.course mid.check.exam action course
    pub over : IsOverBy (moment after.state before.asked) action why after.asked
    pub leads : after.state ≡ record mid { course = course }
