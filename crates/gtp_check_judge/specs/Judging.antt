-- Whether a reply is what is due.
use Rattle.std.specs.Prelude.{◌≡◌, ℕ, ℤ, ◌==◌, ◌&&◌, Bool, true, false, List, [], ◌∷◌, Option, None, Some}
use Rattle.std.specs.Prelude.{if◌then◌else◌}
use Rattle.std.specs.List.{list_any}
use Rattle.go_base.specs.Handicap.{AllowsHandicap, handicap_points}
use Rattle.go_base.specs.declared.colours.Colour.{Colour}
use Rattle.go_base.specs.declared.moves.Move.{Move}
use Rattle.go_base.specs.declared.vertices.Vertex.{Vertex}
use Rattle.go_base.specs.declared.choices.Choice.{Choice}
use Rattle.go_base.specs.declared.choices.Choice.TheVariants as choice
use Rattle.go_board.specs.Game.{GameRecord, IsLegal}
use Rattle.go_board.specs.Refusals.{RefusesVertex}
use Rattle.gtp_wire.specs.declared.commands.Command.{Command}
use Rattle.gtp_wire.specs.declared.commands.Command.TheVariants as command
use Rattle.gtp_wire.specs.declared.replies.Reply.{Reply}
use Rattle.gtp_wire.specs.Words.{reply_words}
use Rattle.gtp_check_judge.specs.declared.asking.CheckCommand.{CheckCommand}
use Rattle.gtp_check_judge.specs.declared.asking.CheckCommand.TheVariants.{Match, FinalScore, Name, Version}
use Rattle.gtp_check_judge.specs.declared.asking.CheckCommand.TheVariants.{KnownCommand, PlayInFull, GenmoveInFull, ListCommands}
use Rattle.gtp_check_judge.specs.declared.asking.CheckCommand.TheVariants.{Faulty, Required}
use Rattle.gtp_check_judge.specs.declared.dues.Due.{Due}
use Rattle.gtp_check_judge.specs.declared.dues.Due.TheVariants.{Succeeds, Fails, Places, Resizes, Scores, AnyReply}
use Rattle.gtp_check_judge.specs.declared.dues.Due.TheVariants.{Chooses, MayUndo, Lists}
use Rattle.gtp_check_judge.specs.declared.dues.Cause.{Cause}
use Rattle.gtp_check_judge.specs.declared.unanswered.Asked.{Asked}
use Rattle.gtp_check_judge.specs.declared.judging.Judgement.{Judgement}
use Rattle.gtp_check_judge.specs.declared.judging.Judgement.TheVariants.{Right, Plays, Resized, Undone, Opines, Wrong}
use Rattle.gtp_check_judge.specs.declared.judging.Refusal.{Refusal}
use Rattle.gtp_check_judge.specs.declared.judging.Refusal.TheVariants as refusal
use Rattle.gtp_check_judge.specs.declared.judging.Kind.TheVariants.{Refused, Took, OtherPoints, NoMove, NoVertex}
use Rattle.gtp_check_judge.specs.declared.judging.Kind.TheVariants.{Unlawful, NoScore, OtherScore, WrongId, Unasked}
use Rattle.gtp_check_judge.specs.declared.judging.Kind.TheVariants.{NoStatus, Overlong, Unlisted}
use Rattle.gtp_wire.specs.ReplyWords.{choice_of_text, names_points}
use Rattle.gtp_check_judge.specs.declared.scores.SaidScore.{SaidScore}
use Rattle.gtp_check_judge.specs.declared.opinions.View.{View}
use Rattle.gtp_check_judge.specs.declared.opinions.Opinion.{Opinion}
use Rattle.gtp_check_judge.specs.Scores.{score_of_text}
use Rattle.gtp_check_judge.specs.Opinions.{view_of, agrees, opinion_with}
use Rattle.gtp_check_judge.specs.Listings.{lists_required, rows}
use Rattle.gtp_check_judge.specs.RightEngine.{RightEngine}

-- ---- what is unanswered

-- how many commands are unanswered at most
abbrev pub most_unanswered : ℕ
most_unanswered = 8

abbrev pub none_unanswered : List Asked → Bool
none_unanswered [] = true
none_unanswered (asked ∷ later) = false

abbrev pub oldest : List Asked → Option Asked
oldest [] = None
oldest (asked ∷ later) = Some asked

-- What a right engine does isn't known before its answer: its choice, a size or an `undo` that it may refuse, or what
-- it thinks of the board. So nothing is asked before that answer.
abbrev pub is_open : Due → Bool
is_open (Chooses colour) = true
is_open (Resizes size) = true
is_open MayUndo = true
is_open (Scores size komi) = true
is_open Succeeds = false
is_open (Fails cause) = false
is_open (Places size stones) = false
is_open AnyReply = false
is_open Lists = false

-- one whose answer has to be awaited is among them
abbrev pub awaits : List Asked → Bool
awaits list = list_any (λ asked. is_open asked.due) list

-- an `undo` may fail: one has succeeded since the last move, and there is a move
abbrev pub undo_may_fail : Bool → List Move → Bool
undo_may_fail undone [] = false
undo_may_fail undone (move ∷ later) = undone

-- what is due to a command will be of that kind
abbrev pub leaves_open : RightEngine → Command → Bool
leaves_open engine (command.Genmove colour) = true
leaves_open engine (command.Boardsize size) = true
leaves_open engine command.Undo = undo_may_fail engine.undone engine.game.moves
leaves_open engine (command.Komi komi) = false
leaves_open engine command.ClearBoard = false
leaves_open engine (command.FixedHandicap stones) = false
leaves_open engine (command.Play move) = false
leaves_open engine command.Quit = false

abbrev pub is_awaited : RightEngine → CheckCommand → Bool
is_awaited engine (Match command) = leaves_open engine command
is_awaited engine FinalScore = true
is_awaited engine Name = false
is_awaited engine Version = false
is_awaited engine (KnownCommand known) = false
is_awaited engine ListCommands = false
is_awaited engine (Faulty command) = false
is_awaited engine (Required command) = false
is_awaited engine (PlayInFull move) = leaves_open engine (command.Play move)
is_awaited engine (GenmoveInFull colour) = leaves_open engine (command.Genmove colour)

-- ---- what a reply is

-- the reply has an id, and it is this one
abbrev pub has_id : Option ℕ → ℕ → Bool
has_id None id = false
has_id (Some n) id = n == id

-- where a success is due
abbrev pub success_judged : Bool → Judgement
success_judged true = Right
success_judged false = Wrong Refused

-- where a failure is due
abbrev pub failure_judged : Cause → Bool → Judgement
failure_judged cause true = Wrong (Took cause)
failure_judged cause false = Right

-- Where a board of this size is due, or a failure: either is right. By a success the board has this size; by a failure
-- it is as it was.
abbrev pub size_judged : ℕ → Bool → Judgement
size_judged size true = Resized size
size_judged size false = Right

-- Where an `undo` may be refused: either is right. By a success the last move is taken back; by a failure nothing
-- changes.
abbrev pub undo_judged : Bool → Judgement
undo_judged true = Undone
undo_judged false = Right

-- where the points of a handicap are due, and whether they are named
abbrev pub points_judged : Bool → Bool → Judgement
points_judged named false = Wrong Refused
points_judged true true = Right
points_judged false true = Wrong OtherPoints

-- a vertex: the colour plays it where it is legal, and else the answer is wrong, for the rule that it breaks
abbrev pub VertexJudged : GameRecord → Colour → Vertex → Judgement → Type 0
VertexJudged game colour v Right = ⊥
VertexJudged game colour v (Resized size) = ⊥
VertexJudged game colour v Undone = ⊥
VertexJudged game colour v (Opines opinion) = ⊥
VertexJudged game colour v (Plays by at) = (by ≡ colour) × (at ≡ v) × IsLegal game colour v
VertexJudged game colour v (Wrong (Unlawful fault)) = RefusesVertex game colour v fault
VertexJudged game colour v (Wrong Refused) = ⊥
VertexJudged game colour v (Wrong (Took cause)) = ⊥
VertexJudged game colour v (Wrong OtherPoints) = ⊥
VertexJudged game colour v (Wrong NoMove) = ⊥
VertexJudged game colour v (Wrong NoVertex) = ⊥
VertexJudged game colour v (Wrong NoScore) = ⊥
VertexJudged game colour v (Wrong OtherScore) = ⊥
VertexJudged game colour v (Wrong WrongId) = ⊥
VertexJudged game colour v (Wrong Unasked) = ⊥
VertexJudged game colour v (Wrong NoStatus) = ⊥
VertexJudged game colour v (Wrong Overlong) = ⊥
VertexJudged game colour v (Wrong Unlisted) = ⊥

-- what was said by a `genmove` that succeeded: neither a vertex nor `resign`; `resign`; or a vertex
abbrev pub SaidJudged : GameRecord → Colour → Option Choice → Judgement → Type 0
SaidJudged game colour None got = got ≡ Wrong NoVertex
SaidJudged game colour (Some choice.Resign) got = got ≡ Right
SaidJudged game colour (Some (choice.Play v)) got = VertexJudged game colour v got

-- a reply to a `genmove`: it failed, or succeeded and said this
abbrev pub ChoiceJudged : GameRecord → Colour → Bool → Option Choice → Judgement → Type 0
ChoiceJudged game colour false said got = got ≡ Wrong NoMove
ChoiceJudged game colour true said got = SaidJudged game colour said got

-- What was said of a board, where it is compared at all: it agrees with the opinion so far, and changes that, or it
-- doesn't.
abbrev pub view_judged : Opinion → Option View → Judgement
view_judged opinion None = Right
view_judged opinion (Some new) = if agrees opinion new then Opines (opinion_with opinion new) else Wrong OtherScore

-- what was said by a `final_score` that succeeded on a board of this size with this komi: no score, or this one
abbrev pub said_score_judged : Opinion → ℕ → ℤ → Option SaidScore → Judgement
said_score_judged opinion size komi None = Wrong NoScore
said_score_judged opinion size komi (Some said) = view_judged opinion (view_of size komi said)

-- a reply to a `final_score`: it failed, which is right, or succeeded and said this
abbrev pub score_judged : Opinion → ℕ → ℤ → Bool → Option SaidScore → Judgement
score_judged opinion size komi false said = Right
score_judged opinion size komi true said = said_score_judged opinion size komi said

-- the words are the points of the handicap, each once, in any order
abbrev pub are_points : ℕ → ℕ → Reply → Bool
are_points size stones reply = names_points (handicap_points size stones) (reply_words reply.text.items)

-- Where a list is due, and whether each of the commands that it needs is in it.
abbrev pub list_judged : Bool → Bool → Judgement
list_judged has_all false = Wrong Refused
list_judged true true = Right
list_judged false true = Wrong Unlisted

-- A reply, to a command to which this is due. The game and the opinion are those of a right engine.
abbrev pub Judged : GameRecord → Opinion → Due → Reply → Judgement → Type 0
Judged game opinion Succeeds reply got = got ≡ success_judged reply.ok
Judged game opinion (Fails cause) reply got = got ≡ failure_judged cause reply.ok
Judged game opinion (Places size stones) reply got =
    got ≡ points_judged (reply.ok && are_points size stones reply) reply.ok
Judged game opinion (Resizes size) reply got = got ≡ size_judged size reply.ok
Judged game opinion (Scores size komi) reply got =
    got ≡ score_judged opinion size komi reply.ok (score_of_text reply.text.items)
Judged game opinion AnyReply reply got = got ≡ Right
Judged game opinion MayUndo reply got = got ≡ undo_judged reply.ok
Judged game opinion Lists reply got =
    got ≡ list_judged (lists_required (rows reply.text.items)) reply.ok
Judged game opinion (Chooses colour) reply got =
    ChoiceJudged game colour reply.ok (choice_of_text reply.text.items) got

-- a handicap that is due is one that its size allows
abbrev pub MayBeJudged : Due → Type 0
MayBeJudged (Places size stones) = AllowsHandicap size stones
MayBeJudged Succeeds = Unit {0}
MayBeJudged (Fails cause) = Unit {0}
MayBeJudged (Resizes size) = Unit {0}
MayBeJudged (Scores size komi) = Unit {0}
MayBeJudged AnyReply = Unit {0}
MayBeJudged MayUndo = Unit {0}
MayBeJudged Lists = Unit {0}
MayBeJudged (Chooses colour) = Unit {0}

-- what was asked for and is refused by a reply of this status, if any: a size, or an `undo` that may fail
abbrev pub refused_by : Due → Bool → Option Refusal
refused_by (Resizes size) false = Some (refusal.Size size)
refused_by (Resizes size) true = None
refused_by MayUndo false = Some refusal.Undo
refused_by MayUndo true = None
refused_by Succeeds ok = None
refused_by (Fails cause) ok = None
refused_by (Places size stones) ok = None
refused_by (Scores size komi) ok = None
refused_by AnyReply ok = None
refused_by Lists ok = None
refused_by (Chooses colour) ok = None
