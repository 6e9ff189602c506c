-- What the examiner keeps of an engine, and its steps.
use Rattle.std.specs.Prelude.{◌≡◌, ℕ, ◌+◌, ◌<◌, ◌≤◌, Bool, true, false, List, [], ◌∷◌, ◌++◌, length, drop}
use Rattle.std.specs.Prelude.{Option, None, Some, IfSome, Result, Ok, Err}
use Rattle.go_base.specs.Int.{most_int}
use Rattle.go_board.specs.Game.{GameRecord, HasRoom, IsLegal, with_move, without_last, fresh_game_under}
use Rattle.go_board.specs.declared.rules.KoRule.{KoRule}
use Rattle.gtp_check_judge.specs.declared.asking.CheckCommand.{CheckCommand}
use Rattle.gtp_wire.specs.declared.commands.Command.TheVariants.{Boardsize}
use Rattle.gtp_wire.specs.declared.replies.Reply.{Reply}
use Rattle.gtp_wire.specs.declared.replies.ReplyFault.{ReplyFault}
use Rattle.gtp_wire.specs.declared.replies.ReplyFault.TheVariants as fault
use Rattle.gtp_wire.specs.Replies.{ReadsFirst}
use Rattle.gtp_check_judge.specs.Asking.{IsCheckWritable, IsCheckInLimits}
use Rattle.gtp_session.specs.CommandAnswers.{after_command}
use Rattle.gtp_check_judge.specs.declared.dues.Due.{Due}
use Rattle.gtp_check_judge.specs.declared.dues.Due.TheVariants.{Succeeds, Fails, Places, Resizes, Scores, AnyReply}
use Rattle.gtp_check_judge.specs.declared.dues.Due.TheVariants.{Chooses, MayUndo, Lists}
use Rattle.gtp_check_judge.specs.declared.judging.Judgement.{Judgement}
use Rattle.gtp_check_judge.specs.declared.judging.Refusal.{Refusal}
use Rattle.gtp_check_judge.specs.declared.judging.Judgement.TheVariants.{Right, Plays, Resized, Undone, Opines, Wrong}
use Rattle.gtp_check_judge.specs.declared.judging.Kind.{Kind}
use Rattle.gtp_check_judge.specs.declared.judging.Kind.TheVariants.{WrongId, Unasked, NoStatus, Overlong}
use Rattle.gtp_check_judge.specs.declared.unanswered.Asked.{Asked}
use Rattle.gtp_check_judge.specs.declared.exam.Exam.{Exam}
use Rattle.gtp_check_judge.specs.declared.exam.Finding.{Finding}
use Rattle.gtp_check_judge.specs.declared.opinions.Opinion.TheVariants.{Unheard}
use Rattle.gtp_check_judge.specs.declared.setups.Board.TheVariants.{Unknown, Sized, Cleared}
use Rattle.gtp_check_judge.specs.Setups.{is_clear_board, komi_after, is_final_score, needs_board, board_after}
use Rattle.gtp_check_judge.specs.declared.skills.Skill.TheVariants.{Has}
use Rattle.gtp_check_judge.specs.Skills.{needed_skill, none_asked, said_of, learned}
use Rattle.gtp_check_judge.specs.RightEngine.{RightEngine}
use Rattle.gtp_check_judge.specs.Dues.{IsDue, MayBeAsked, after_due, undone_due}
use Rattle.gtp_check_judge.specs.Judging.{most_unanswered, oldest, awaits, is_awaited, has_id, Judged, MayBeJudged}
use Rattle.gtp_check_judge.specs.Judging.{refused_by}

-- ---- a start, and its end

-- an engine with this ko rule that is up or not, and was asked nothing
abbrev pub begun : KoRule → Bool → Exam
begun rule up = record {
  game = fresh_game_under rule;
  undone = false;
  opinion = Unheard;
  up = up;
  sent = 0;
  unanswered = [];
  reader = [];
  board = Unknown;
  komi_set = false;
  skills = none_asked;
}

-- the right engine of the exam: one that has answered all that was asked
abbrev pub engine_of : Exam → RightEngine
engine_of exam = record { game = exam.game; undone = exam.undone; opinion = exam.opinion }

-- the engine was found wrong, or lost
abbrev pub downed : Exam → Exam
downed exam = record exam { up = false }

-- ---- a command

-- A command is asked: it is the next by its number, and what is due to it is due of a right engine, which goes on to
-- the one after it. The command can be written.
pub record Asks (old : Exam) (command : CheckCommand) (new : Exam) : Type 0 where
  pub due : Due
  pub writable : IsCheckWritable command
  pub limits : IsCheckInLimits command
  pub is_due : IsDue (engine_of old) command due
  pub new_is : new ≡ record old {
    game = after_due old.game command due;
    undone = undone_due old.undone command due;
    sent = old.sent + 1;
    unanswered = old.unanswered ++ record { id = old.sent + 1; command = command; due = due } ∷ [];
    board = board_after old.board (is_clear_board command);
    komi_set = komi_after old.komi_set command;
  }

-- ---- bytes

abbrev pub kind_of : ReplyFault → Kind
kind_of fault.NoStatus = NoStatus
kind_of fault.Overlong = Overlong

-- what is found of a command whose reply was judged
abbrev pub finding_of : Asked → Judgement → Option Finding
finding_of asked Right = None
finding_of asked (Plays colour v) = None
finding_of asked (Resized size) = None
finding_of asked Undone = None
finding_of asked (Opines opinion) = None
finding_of asked (Wrong kind) = Some (record { asked = Some asked; kind = kind })

-- A right answer is taken off, with the move or the empty board that it made, the move that it took back, or what it
-- says of the board. After a wrong one the engine is down.
abbrev pub after_judged : Exam → Judgement → Exam
after_judged exam Right = record exam { unanswered = drop 1 exam.unanswered }
after_judged exam (Plays colour v) =
    record exam { unanswered = drop 1 exam.unanswered; game = with_move exam.game colour v; undone = false }
after_judged exam (Resized size) =
    record exam {
      unanswered = drop 1 exam.unanswered;
      game = after_command exam.game (Boardsize size);
      board = Sized;
    }
after_judged exam Undone =
    record exam { unanswered = drop 1 exam.unanswered; game = without_last exam.game; undone = true }
after_judged exam (Opines opinion) = record exam { unanswered = drop 1 exam.unanswered; opinion = opinion }
after_judged exam (Wrong kind) = downed exam

-- the same exam, with what is known of the engine once it has answered this command so
abbrev pub with_learned : Exam → CheckCommand → Reply → Exam
with_learned exam command reply = record exam { skills = learned exam.skills command reply }

-- a reply, and the command that it is heard for
pub record ReplyTo : Type 0 where
  pub asked : Asked
  pub reply : Reply

abbrev pub reply_to : Asked → Reply → ReplyTo
reply_to asked reply = record { asked = asked; reply = reply }

-- a reply with the id of the oldest command, or with another or none
abbrev pub IdLeaves : Exam → ReplyTo → Bool → Option Finding → Exam → Type 0
IdLeaves exam to false finding new =
    (finding ≡ Some (record { asked = Some to.asked; kind = WrongId })) × (new ≡ downed exam)
IdLeaves exam to true finding new =
    (got : Judgement) × Judged exam.game exam.opinion to.asked.due to.reply got
    × (finding ≡ finding_of to.asked got)
    × (new ≡ after_judged (with_learned exam to.asked.command to.reply) got)

-- a reply, where this is the oldest command, if any
abbrev pub ReplyLeaves : Exam → Option Asked → Reply → Option Finding → Exam → Type 0
ReplyLeaves exam None reply finding new =
    (finding ≡ Some (record { asked = None; kind = Unasked })) × (new ≡ downed exam)
ReplyLeaves exam (Some asked) reply finding new =
    IdLeaves exam (reply_to asked reply) (has_id reply.id asked.id) finding new

-- what the reader read
abbrev pub Leaves : Exam → Option (Result Reply ReplyFault) → Option Finding → Exam → Type 0
Leaves exam None finding new = (finding ≡ None) × (new ≡ exam)
Leaves exam (Some (Err shown)) finding new =
    (finding ≡ Some (record { asked = oldest exam.unanswered; kind = kind_of shown })) × (new ≡ downed exam)
Leaves exam (Some (Ok reply)) finding new = ReplyLeaves exam (oldest exam.unanswered) reply finding new

-- the same engine, whose reader holds these bytes
abbrev pub with_rest : Exam → List ℕ → Exam
with_rest exam rest = record exam { reader = rest }

-- what comes of bytes that are heard: how many of them are used, what is read by them, and what is found
pub record Hearing : Type 0 where
  pub used : ℕ
  pub read : Option (Result Reply ReplyFault)
  pub finding : Option Finding

abbrev pub hearing : ℕ → Option (Result Reply ReplyFault) → Option Finding → Hearing
hearing used read finding = record { used = used; read = read; finding = finding }

-- bytes of an engine that is up are heard, with this that comes of them
abbrev pub Hears : Exam → List ℕ → Hearing → Exam → Type 0
Hears old bytes heard new =
    (rest : List ℕ) × ReadsFirst old.reader bytes heard.used heard.read rest
    × Leaves (with_rest old rest) heard.read heard.finding new

-- of an engine that is down all bytes are used, and nothing changes
abbrev pub HearsDown : Exam → List ℕ → ℕ → Option Finding → Exam → Type 0
HearsDown old bytes used finding new = (used ≡ length bytes) × (finding ≡ None) × (new ≡ old)

-- ---- right answers

-- the command to which what was read is a right answer, where this is the oldest command: nothing was found
abbrev pub answered_by : Option Asked → Option (Result Reply ReplyFault) → Option Finding → Option Asked
answered_by (Some asked) (Some (Ok reply)) None = Some asked
answered_by (Some asked) (Some (Ok reply)) (Some finding) = None
answered_by (Some asked) (Some (Err shown)) finding = None
answered_by (Some asked) None finding = None
answered_by None read finding = None

-- what is refused by what was read, where this is the oldest command, and nothing was found
abbrev pub refused_what : Option Asked → Option (Result Reply ReplyFault) → Option Finding → Option Refusal
refused_what (Some asked) (Some (Ok reply)) None = refused_by asked.due reply.ok
refused_what (Some asked) (Some (Ok reply)) (Some finding) = None
refused_what (Some asked) (Some (Err shown)) finding = None
refused_what (Some asked) None finding = None
refused_what None read finding = None

-- ---- what must hold before a step

-- a move is made only where it is legal and there is room, and taken back only where there is one
abbrev pub MayApply : GameRecord → Judgement → Type 0
MayApply game Right = Unit {0}
MayApply game (Plays colour v) = IsLegal game colour v × HasRoom game
MayApply game (Resized size) = Unit {0}
MayApply game Undone = 0 < length game.moves
MayApply game (Opines opinion) = Unit {0}
MayApply game (Wrong kind) = Unit {0}

-- What is due may be judged: a handicap is one that its size allows; there is room for a choice, and a move where an
-- `undo` may take it back.
abbrev pub MayBeTaken : GameRecord → Due → Type 0
MayBeTaken game (Chooses colour) = HasRoom game
MayBeTaken game MayUndo = 0 < length game.moves
MayBeTaken game (Places size stones) = MayBeJudged (Places size stones)
MayBeTaken game (Resizes size) = Unit {0}
MayBeTaken game (Scores size komi) = Unit {0}
MayBeTaken game AnyReply = Unit {0}
MayBeTaken game Lists = Unit {0}
MayBeTaken game Succeeds = Unit {0}
MayBeTaken game (Fails cause) = Unit {0}

abbrev pub MayReply : Exam → Type 0
MayReply exam = IfSome (oldest exam.unanswered) (λ asked. MayBeTaken exam.game asked.due)

-- ---- what holds of every examiner

-- The commands are numbered one after the other, the first of them after this number.
abbrev pub AreNumbered : ℕ → List Asked → Type 0
AreNumbered before [] = Unit {0}
AreNumbered before (asked ∷ later) = (asked.id ≡ before + 1) × AreNumbered (before + 1) later

-- what is due to each of them may be judged
abbrev pub MayAllBeTaken : GameRecord → List Asked → Type 0
MayAllBeTaken game [] = Unit {0}
MayAllBeTaken game (asked ∷ later) = MayBeTaken game asked.due × MayAllBeTaken game later

-- At most eight commands are unanswered, and one whose answer is awaited only alone: a `genmove`, with room in the
-- record for its move, a `boardsize`, an `undo` that may fail, or a `final_score`. Their ids are the last numbers that
-- were given, each an int. What is due to each may be judged.
pub record AreOrderly (game : GameRecord) (sent : ℕ) (unanswered : List Asked) : Type 0 where
  pub few : length unanswered ≤ most_unanswered
  pub alone : awaits unanswered ≡ true → length unanswered ≡ 1
  pub ints : sent ≤ most_int
  pub answered : ℕ
  pub count : answered + length unanswered ≡ sent
  pub numbered : AreNumbered answered unanswered
  pub judged : MayAllBeTaken game unanswered

abbrev pub IsOrderly : Exam → Type 0
IsOrderly exam = AreOrderly exam.game exam.sent exam.unanswered

-- A command may be asked: the engine is up, fewer than eight commands are unanswered and none of them is a `genmove`, a
-- `boardsize`, an `undo` that may fail or a `final_score`, and one of these only where none is; there is an int for its
-- id; the board and komi are known on which what is due hangs; the engine has the command, where it may be without it;
-- and it may be asked in the game.
pub record HasRoomFor (exam : Exam) (command : CheckCommand) : Type 0 where
  pub up : exam.up ≡ true
  pub few : length exam.unanswered < most_unanswered
  pub none_awaits : awaits exam.unanswered ≡ false
  pub alone : is_awaited (engine_of exam) command ≡ true → exam.unanswered ≡ []
  pub id : exam.sent < most_int
  pub board : needs_board command ≡ true → exam.board ≡ Cleared
  pub komi : is_final_score command ≡ true → exam.komi_set ≡ true
  pub skill : IfSome (needed_skill command) (λ known. said_of exam.skills known ≡ Has)
  pub may : MayBeAsked exam.game command
