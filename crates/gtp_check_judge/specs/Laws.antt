-- Laws of the examiner: what holds of every talk between it and one engine, whatever that is.
use Rattle.std.specs.Prelude.{◌≡◌, ◌≢◌, ℕ, pos, ◌+ℤ◌, ◌*ℤ◌, Bool, true, false, List, [], ◌∷◌, ◌++◌, take, Option, None}
use Rattle.std.specs.Prelude.{Some, IfSome, Result, Ok, Err, ◌<◌, length}
use Rattle.go_base.specs.Size.{IsSize}
use Rattle.go_base.specs.Handicap.{handicap_points}
use Rattle.go_base.specs.declared.choices.Choice.{Choice}
use Rattle.go_board.specs.Game.{GameRecord}
use Rattle.gtp_wire.specs.Lines.{lines}
use Rattle.go_board.specs.declared.rules.KoRule.{KoRule}
use Rattle.gtp_wire.specs.declared.commands.Command.{Command}
use Rattle.gtp_check_judge.specs.declared.asking.CheckCommand.{CheckCommand}
use Rattle.gtp_check_judge.specs.declared.asking.CheckCommand.TheVariants.{Match, FinalScore, Name, Version}
use Rattle.gtp_check_judge.specs.declared.asking.CheckCommand.TheVariants.{KnownCommand, PlayInFull, GenmoveInFull, ListCommands}
use Rattle.gtp_check_judge.specs.declared.asking.CheckCommand.TheVariants.{Faulty, Required}
use Rattle.gtp_wire.specs.declared.commands.Command.TheVariants.{Boardsize, Komi, ClearBoard, FixedHandicap, Play}
use Rattle.gtp_wire.specs.declared.commands.Command.TheVariants.{Genmove, Undo, Quit}
use Rattle.gtp_wire.specs.Replies.{IsReply, GivesNoAnswer}
use Rattle.gtp_wire.specs.declared.lines.Line.{Line}
use Rattle.gtp_wire.specs.declared.replies.Reply.{Reply}
use Rattle.gtp_wire.specs.declared.replies.ReplyFault.{ReplyFault}
use Rattle.gtp_wire.specs.declared.replies.ReplyFault.TheVariants as fault
use Rattle.gtp_check_judge.specs.Asking.{written_check, line_of_check, IsCheckWritable, IsCheckInLimits}
use Rattle.gtp_check_judge.specs.declared.scores.Score.{Score}
use Rattle.gtp_check_judge.specs.declared.scores.SaidScore.{SaidScore}
use Rattle.gtp_check_judge.specs.declared.scores.SaidScore.TheVariants.{Number}
use Rattle.gtp_check_judge.specs.declared.opinions.View.{View}
use Rattle.gtp_check_judge.specs.declared.opinions.Opinion.TheVariants.{Thrice}
use Rattle.gtp_check_judge.specs.Scores.{score_of_text}
use Rattle.gtp_check_judge.specs.Listings.{lists_required, rows}
use Rattle.gtp_check_judge.specs.Opinions.{agrees_with, allowed, distance}
use Rattle.gtp_wire.specs.Words.{reply_words}
use Rattle.gtp_session.specs.Policy.{May, IsLawful}
use Rattle.gtp_session.specs.Commands.{answer, asked}
use Rattle.gtp_session.specs.CommandAnswers.{after_command}
use Rattle.gtp_session.specs.Engine.{Engine, Engages, fresh_under}
use Rattle.gtp_check_judge.specs.declared.unanswered.Asked.{Asked}
use Rattle.gtp_check_judge.specs.declared.dues.Due.TheVariants.{Fails, Places, Scores, Chooses, Lists}
use Rattle.gtp_check_judge.specs.declared.judging.Kind.{Kind}
use Rattle.gtp_check_judge.specs.declared.judging.Kind.TheVariants.{Refused, Took, OtherPoints, NoMove, NoVertex}
use Rattle.gtp_check_judge.specs.declared.judging.Kind.TheVariants.{Unlawful, NoScore, OtherScore, WrongId, Unasked}
use Rattle.gtp_check_judge.specs.declared.judging.Kind.TheVariants.{NoStatus, Overlong, Unlisted}
use Rattle.go_base.specs.declared.choices.Choice.TheVariants as choice
use Rattle.go_base.specs.declared.colours.Colour.{Colour}
use Rattle.go_base.specs.declared.vertices.Vertex.{Vertex}
use Rattle.go_board.specs.Refusals.{RefusesVertex}
use Rattle.gtp_check_judge.specs.declared.exam.Exam.{Exam}
use Rattle.gtp_check_judge.specs.declared.exam.Finding.{Finding}
use Rattle.gtp_wire.specs.ReplyWords.{choice_of_text, names_points}
use Rattle.gtp_check_judge.specs.Komis.{is_exact_komi}
use Rattle.gtp_check_judge.specs.RightEngine.{RightEngine, fresh_engine, undone_after, view_in, opinion_after}
use Rattle.gtp_check_judge.specs.Dues.{IsDue, engine_after}
use Rattle.gtp_check_judge.specs.Judging.{oldest}
use Rattle.gtp_check_judge.specs.Exam.{begun, engine_of, Asks, Hears, HasRoomFor, IsOrderly, hearing}

-- ---- right answers, by the table of the engine's commands

-- the line of a command that was asked
abbrev pub line_of_asked : Asked → Line
line_of_asked entry = line_of_check entry.id entry.command

-- What the text of a success has to say, where this was chosen: the points of the handicap, each once and in any order;
-- the choice of a `genmove`; of other commands, and of failures, nothing.
abbrev pub SaysTo : GameRecord → Command → Choice → Bool → List ℕ → Type 0
SaysTo game (FixedHandicap stones) choice true text =
    names_points (handicap_points game.size stones) (reply_words text) ≡ true
SaysTo game (Genmove colour) choice true text = choice_of_text text ≡ Some choice
SaysTo game (FixedHandicap stones) choice false text = Unit {0}
SaysTo game (Genmove colour) choice false text = Unit {0}
SaysTo game (Boardsize size) choice ok text = Unit {0}
SaysTo game (Komi komi) choice ok text = Unit {0}
SaysTo game ClearBoard choice ok text = Unit {0}
SaysTo game (Play move) choice ok text = Unit {0}
SaysTo game Undo choice ok text = Unit {0}
SaysTo game Quit choice ok text = Unit {0}

-- What a `final_score` has to say: a score. Of an empty board it agrees with what the engine said three times.
abbrev pub SaysScore : RightEngine → Option SaidScore → Type 0
SaysScore engine None = ⊥
SaysScore engine (Some said) = agrees_with engine.opinion (view_in engine.game said) ≡ true

-- The same of each command: the text of a `final_score` is such a score; of a `name`, a `version` and a `known_command`
-- it is any, and so it is of what has to fail and of what may not; that of a `list_commands` has a row for each command
-- that every engine has.
abbrev pub Says : RightEngine → CheckCommand → Choice → Bool → List ℕ → Type 0
Says engine (Match command) choice ok text = SaysTo engine.game command choice ok text
Says engine FinalScore choice true text = SaysScore engine (score_of_text text)
Says engine FinalScore choice false text = Unit {0}
Says engine Name choice ok text = Unit {0}
Says engine Version choice ok text = Unit {0}
Says engine (KnownCommand known) choice ok text = Unit {0}
Says engine ListCommands choice true text = lists_required (rows text) ≡ true
Says engine ListCommands choice false text = Unit {0}
Says engine (Faulty command) choice ok text = Unit {0}
Says engine (Required command) choice ok text = Unit {0}
Says engine (PlayInFull move) choice ok text = SaysTo engine.game (Play move) choice ok text
Says engine (GenmoveInFull colour) choice ok text = SaysTo engine.game (Genmove colour) choice ok text

-- The reply is an answer by the table to the command, and leaves this engine after: it has the command's id, and for
-- some choice, which is lawful where a policy is asked for one, it has the status that the table answers in the game
-- before, and says what it has to.
pub record IsByTable (before : RightEngine) (entry : Asked) (reply : Reply) (after : RightEngine) : Type 0 where
  pub id : reply.id ≡ Some entry.id
  pub choice : Choice
  pub lawful : IfSome (asked before.game (line_of_asked entry)) (λ colour. IsLawful before.game colour choice)
  pub status : reply.ok ≡ (answer before.game (line_of_asked entry) choice).ok
  pub says : Says before entry.command choice reply.ok reply.text.items
  pub leaves : after ≡ record {
    game = (answer before.game (line_of_asked entry) choice).game;
    undone = undone_after before.undone entry.command reply;
    opinion = opinion_after before entry.command reply;
  }

-- an `undo` has succeeded since the last move, and there is a move
pub record MayFailToUndo (engine : RightEngine) : Type 0 where
  pub undone : engine.undone ≡ true
  pub moves : 0 < length engine.game.moves

-- A right engine may refuse the command, though the table's engine doesn't: a `boardsize`, since it may take fewer
-- sizes than 1 to 25; a `komi` that may be no float; an `undo` once one has succeeded since the last move, since it may
-- keep no more of the history; a `final_score`, which it may be without; and `name`, `version` and `known_command`,
-- whose answers aren't judged.
abbrev pub MayRefuseTo : RightEngine → Command → Type 0
MayRefuseTo engine (Boardsize size) = Unit {0}
MayRefuseTo engine Undo = MayFailToUndo engine
MayRefuseTo engine (Komi komi) = is_exact_komi komi ≡ false
MayRefuseTo engine ClearBoard = ⊥
MayRefuseTo engine (FixedHandicap stones) = ⊥
MayRefuseTo engine (Play move) = ⊥
MayRefuseTo engine (Genmove colour) = ⊥
MayRefuseTo engine Quit = ⊥

abbrev pub MayRefuse : RightEngine → CheckCommand → Type 0
MayRefuse engine (Match command) = MayRefuseTo engine command
MayRefuse engine FinalScore = Unit {0}
MayRefuse engine Name = Unit {0}
MayRefuse engine Version = Unit {0}
MayRefuse engine (KnownCommand known) = Unit {0}
MayRefuse engine ListCommands = ⊥
MayRefuse engine (Faulty command) = ⊥
MayRefuse engine (Required command) = ⊥
MayRefuse engine (PlayInFull move) = MayRefuseTo engine (Play move)
MayRefuse engine (GenmoveInFull colour) = MayRefuseTo engine (Genmove colour)

-- The engine once it has refused such a command: as it was. Its komi is the last that was asked, whatever came of it.
abbrev pub after_refusal : RightEngine → CheckCommand → RightEngine
after_refusal engine (Match (Komi komi)) = record engine { game = after_command engine.game (Komi komi) }
after_refusal engine (Match (Boardsize size)) = engine
after_refusal engine (Match ClearBoard) = engine
after_refusal engine (Match (FixedHandicap stones)) = engine
after_refusal engine (Match (Play move)) = engine
after_refusal engine (Match (Genmove colour)) = engine
after_refusal engine (Match Undo) = engine
after_refusal engine (Match Quit) = engine
after_refusal engine FinalScore = engine
after_refusal engine Name = engine
after_refusal engine Version = engine
after_refusal engine (KnownCommand known) = engine
after_refusal engine ListCommands = engine
after_refusal engine (Faulty command) = engine
after_refusal engine (Required command) = engine
after_refusal engine (PlayInFull move) = engine
after_refusal engine (GenmoveInFull colour) = engine

-- The reply refuses such a command: it has the command's id, it is a failure, and the engine stays as it is.
pub record IsRefusal (before : RightEngine) (entry : Asked) (reply : Reply) (after : RightEngine) : Type 0 where
  pub may : MayRefuse before entry.command
  pub id : reply.id ≡ Some entry.id
  pub status : reply.ok ≡ false
  pub leaves : after ≡ after_refusal before entry.command

-- The reply is a right answer of the one engine to the command, and leaves the other: an answer by the table, or the
-- refusal of a command that may be refused.
pub data IsRight (before : RightEngine) (entry : Asked) (reply : Reply) (after : RightEngine) : Type 0 where
  by_table : IsByTable before entry reply after → IsRight before entry reply after
  by_refusal : IsRefusal before entry reply after → IsRight before entry reply after

-- ---- talks

-- a command and the reply to it
pub record Exchange : Type 0 where
  pub entry : Asked
  pub reply : Reply

-- From an engine on, each of the commands has a right answer of the engine that those before it leave; they all leave
-- this.
pub data AllRight (from : RightEngine) : List Exchange → RightEngine → Type 0 where
  nothing : AllRight from [] from
  one_more : {said : List Exchange} {before after : RightEngine} (entry : Asked) (reply : Reply)
      → AllRight from said before → IsRight before entry reply after
      → AllRight from (said ++ record { entry = entry; reply = reply } ∷ []) after

-- what was exchanged by what was read, where this is the oldest command
abbrev pub exchanged : Option Asked → Option (Result Reply ReplyFault) → List Exchange
exchanged (Some entry) (Some (Ok reply)) = record { entry = entry; reply = reply } ∷ []
exchanged (Some entry) (Some (Err shown)) = []
exchanged (Some entry) None = []
exchanged None read = []

-- A talk with one engine since it was started, without a finding so far: the bytes of all commands, the bytes that were
-- heard, the commands that were answered with their replies, and the exam as it is then.
pub data Talks (rule : KoRule) : List ℕ → List ℕ → List Exchange → Exam → Type 0 where
  start : Talks rule [] [] [] (begun rule true)
  ask : {sent came : List ℕ} {said : List Exchange} {old new : Exam} (command : CheckCommand)
      → Talks rule sent came said old → HasRoomFor old command → Asks old command new
      → Talks rule (sent ++ written_check new.sent command) came said new
  hear : {sent came : List ℕ} {said : List Exchange} {old new : Exam} (bytes : List ℕ) (used : ℕ)
      (read : Option (Result Reply ReplyFault))
      → Talks rule sent came said old → Hears old bytes (hearing used read None) new
      → Talks rule sent (came ++ take used bytes) (said ++ exchanged (oldest old.unanswered) read) new

-- a command that was asked of this engine
pub record IsAsked (engine : RightEngine) (entry : Asked) : Type 0 where
  pub writable : IsCheckWritable entry.command
  pub limits : IsCheckInLimits entry.command
  pub is_due : IsDue engine entry.command entry.due

-- The commands were asked of this engine and of those that come of it, the last of which is the one ahead.
abbrev pub Expects : RightEngine → List Asked → RightEngine → Type 0
Expects engine [] ahead = ahead ≡ engine
Expects engine (entry ∷ later) ahead =
    IsAsked engine entry × Expects (engine_after engine entry.command entry.due) later ahead

-- ---- silence says what was seen

-- As long as nothing was found, each answer that was heard is a right one of the engine that those before it leave; and
-- what is unanswered was asked of the engine after them. The exam is orderly.
pub record IsRightSoFar (rule : KoRule) (said : List Exchange) (exam : Exam) : Type 0 where
  pub before : RightEngine
  pub right : AllRight (fresh_engine rule) said before
  pub expects : Expects before exam.unanswered (engine_of exam)
  pub size : IsSize before.game.size
  pub orderly : IsOrderly exam

abbrev pub SilenceSaysAllIsRight : Type 0
SilenceSaysAllIsRight = (rule : KoRule) (sent came : List ℕ) (said : List Exchange) (exam : Exam)
    → Talks rule sent came said exam → IsRightSoFar rule said exam

-- ---- a finding is justified

-- what was read is no right answer to the command, whatever a policy would choose
abbrev pub NoRightAnswer : RightEngine → Option Asked → Option (Result Reply ReplyFault) → Type 0
NoRightAnswer before (Some entry) (Some (Ok reply)) = (after : RightEngine) → IsRight before entry reply after → ⊥
NoRightAnswer before (Some entry) (Some (Err shown)) = Unit {0}
NoRightAnswer before (Some entry) None = ⊥
NoRightAnswer before None (Some read) = Unit {0}
NoRightAnswer before None None = ⊥

-- The text is a score of an empty board of a size of which the engine said a score three times. The two differ by more
-- than their komis do, one of the last digit that is written, the coarser of the two, and a hundredth of a point.
pub record DiffersFromOpinion (before : RightEngine) (text : List ℕ) : Type 0 where
  pub old : View
  pub stands : before.opinion ≡ Thrice old
  pub size : old.size ≡ before.game.size
  pub score : Score
  pub said : score_of_text text ≡ Some (Number score)
  pub far : allowed old.unit score.unit
      < distance old.lead (score.millionths +ℤ (pos 500000 *ℤ before.game.komi))

-- What a kind says of a reply to a command that was asked of the engine before. Every right answer is a success, since
-- it may not be refused, and this one failed; every right answer is a failure, for this cause, and this one
-- succeeded; the words aren't the points that are due; a `genmove` failed; or it succeeded, and said nothing that is
-- a choice, or a vertex that is refused for this cause; a `final_score` said what is no score, or one that differs from
-- what it said three times by more than the komis do; a `list_commands` left out a command that every engine has; or
-- the id is missing or another.
abbrev pub KindIsTrue : RightEngine → Asked → Reply → Kind → Type 0
KindIsTrue before entry reply Refused =
    (reply.ok ≡ false) × ((choice : Choice) → (answer before.game (line_of_asked entry) choice).ok ≡ true)
    × ¬ MayRefuse before entry.command
KindIsTrue before entry reply (Took cause) =
    (reply.ok ≡ true) × ((choice : Choice) → (answer before.game (line_of_asked entry) choice).ok ≡ false)
    × (entry.due ≡ Fails cause)
KindIsTrue before entry reply OtherPoints =
    (reply.ok ≡ true) × ((size stones : ℕ) × (entry.due ≡ Places size stones)
    × (names_points (handicap_points size stones) (reply_words reply.text.items) ≡ false))
KindIsTrue before entry reply NoMove =
    (reply.ok ≡ false) × ((colour : Colour) × (entry.due ≡ Chooses colour))
KindIsTrue before entry reply NoVertex =
    (reply.ok ≡ true) × ((colour : Colour) × (entry.due ≡ Chooses colour))
    × (choice_of_text reply.text.items ≡ None)
KindIsTrue before entry reply (Unlawful fault) =
    (reply.ok ≡ true) × ((colour : Colour) × (vertex : Vertex) × (entry.due ≡ Chooses colour)
    × (choice_of_text reply.text.items ≡ Some (choice.Play vertex)) × RefusesVertex before.game colour vertex fault)
KindIsTrue before entry reply NoScore =
    (reply.ok ≡ true) × (entry.due ≡ Scores before.game.size before.game.komi)
    × (score_of_text reply.text.items ≡ None)
KindIsTrue before entry reply OtherScore =
    (reply.ok ≡ true) × (entry.due ≡ Scores before.game.size before.game.komi)
    × DiffersFromOpinion before reply.text.items
KindIsTrue before entry reply Unlisted =
    (reply.ok ≡ true) × (entry.due ≡ Lists) × (lists_required (rows reply.text.items) ≡ false)
KindIsTrue before entry reply WrongId = reply.id ≢ Some entry.id
KindIsTrue before entry reply Unasked = ⊥
KindIsTrue before entry reply NoStatus = ⊥
KindIsTrue before entry reply Overlong = ⊥

-- a fault of the reader is named: bytes that begin no reply, or more of them than a reply may have
abbrev pub FaultIsNamed : ReplyFault → Kind → Type 0
FaultIsNamed fault.NoStatus kind = kind ≡ NoStatus
FaultIsNamed fault.Overlong kind = kind ≡ Overlong

-- The same of what was read: a fault of the reader is named, and so is a reply where nothing was unanswered. Of a reply
-- with a missing or another id nothing else is said: it is no reply to the command.
abbrev pub GivesKind : RightEngine → Option Asked → Option (Result Reply ReplyFault) → Kind → Type 0
GivesKind before (Some entry) (Some (Ok reply)) kind =
    KindIsTrue before entry reply kind × (kind ≢ WrongId → reply.id ≡ Some entry.id)
GivesKind before None (Some (Ok reply)) kind = kind ≡ Unasked
GivesKind before (Some entry) (Some (Err shown)) kind = FaultIsNamed shown kind
GivesKind before None (Some (Err shown)) kind = FaultIsNamed shown kind
GivesKind before (Some entry) None kind = ⊥
GivesKind before None None kind = ⊥

-- What was found: all answers before were right; it names the oldest command that was unanswered, if any; and what was
-- read is no right answer to that of the engine that the answers before leave: a reply that isn't one, or a fault of
-- the reader, which is none at all. What was due to the command is so by the rules of the game and the moves that were
-- taken back, and the kind is true.
pub record IsJustified (rule : KoRule) (said : List Exchange) (exam : Exam) (read : Option (Result Reply ReplyFault))
    (finding : Finding) : Type 0 where
  pub before : RightEngine
  pub right : AllRight (fresh_engine rule) said before
  pub names : finding.asked ≡ oldest exam.unanswered
  pub due : IfSome finding.asked (IsAsked before)
  pub wrong : NoRightAnswer before finding.asked read
  pub kind : GivesKind before finding.asked read finding.kind

abbrev pub FindingsAreJustified : Type 0
FindingsAreJustified = (rule : KoRule) (sent came : List ℕ) (said : List Exchange) (old new : Exam) (bytes : List ℕ)
    (used : ℕ) (read : Option (Result Reply ReplyFault)) (finding : Finding)
    → Talks rule sent came said old → Hears old bytes (hearing used read (Some finding)) new
    → IsJustified rule said old read finding

-- ---- what is asked

-- What is written of a command that is asked is one line, with its id and its words, whatever follows it.
abbrev pub AskedCommandsAreLines : Type 0
AskedCommandsAreLines = (old new : Exam) (command : CheckCommand) (later : List ℕ)
    → HasRoomFor old command → Asks old command new
    → lines (written_check new.sent command ++ later) ≡ line_of_check new.sent command ∷ lines later

-- ---- no right engine is blamed

-- What may be written by whoever was asked these commands and answers rightly, from this engine on: replies, one after
-- the other, each a right answer of the engine that those before it leave. The last commands may have no answer yet.
-- What is after the answers is none: it may be blank, or the front of a reply.
pub data AnswersRightly : RightEngine → List Asked → List ℕ → Type 0 where
  no_more : (engine : RightEngine) (unread : List Asked) (rest : List ℕ) → GivesNoAnswer rest
      → AnswersRightly engine unread rest
  answers : {engine after : RightEngine} {unread : List Asked} {out : List ℕ} (entry : Asked) (reply : Reply)
      (text : List ℕ) → IsReply text reply → IsRight engine entry reply after → AnswersRightly after unread out
      → AnswersRightly engine (entry ∷ unread) (text ++ out)

abbrev pub commands_of : List Exchange → List Asked
commands_of [] = []
commands_of (exchange ∷ later) = exchange.entry ∷ commands_of later

-- Whatever the engine is, if all that it wrote are right answers to the commands that it was asked, and what was heard
-- and is heard now are a front of that, nothing is found. So an engine that refuses sizes, one that takes back just one
-- move, one of other texts, and one without `final_score` aren't blamed; and of scores none that differ as komis do.
abbrev pub WhoAnswersRightlyIsNotBlamed : Type 0
WhoAnswersRightlyIsNotBlamed = (rule : KoRule) (out sent came : List ℕ) (said : List Exchange) (old new : Exam)
    (bytes later : List ℕ) (used : ℕ) (read : Option (Result Reply ReplyFault)) (finding : Option Finding)
    → Talks rule sent came said old → Hears old bytes (hearing used read finding) new
    → AnswersRightly (fresh_engine rule) (commands_of said ++ old.unanswered) out
    → out ≡ came ++ (bytes ++ later)
    → finding ≡ None

-- An engine under this ko rule was given just the bytes that were asked, whatever it chose among what its policy may;
-- what was heard and is heard now are a front of what it wrote. Then nothing is found.
abbrev pub NoRightEngineIsBlamed : {P : Type 0} → May P → Type 0
NoRightEngineIsBlamed {P} may = (rule : KoRule) (policy : P) (engine : Engine P) (out : List ℕ)
    (sent came : List ℕ) (said : List Exchange) (old new : Exam) (bytes later : List ℕ)
    (used : ℕ) (read : Option (Result Reply ReplyFault)) (finding : Option Finding)
    → Talks rule sent came said old → Hears old bytes (hearing used read finding) new
    → Engages may (fresh_under rule policy) sent engine out → out ≡ came ++ (bytes ++ later)
    → finding ≡ None
