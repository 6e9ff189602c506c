-- Whatever is said with an engine, its ko rule stays.
use Rattle.std.proofs.Common.{◌≡◌, ◌∙◌, ℕ, Bool, true, false, List, [], refl, ap, Option, None, Some, Result, Ok, Err}
use Rattle.go_board.specs.Game.{GameRecord}
use Rattle.gtp_wire.specs.declared.commands.Command.{Command}
use Rattle.gtp_wire.specs.declared.commands.Command.TheVariants.{Boardsize, Komi, ClearBoard, FixedHandicap, Play}
use Rattle.gtp_wire.specs.declared.commands.Command.TheVariants.{Genmove, Undo, Quit}
use Rattle.gtp_wire.specs.declared.replies.Reply.{Reply}
use Rattle.gtp_wire.specs.declared.replies.ReplyFault.{ReplyFault}
use Rattle.gtp_process.specs.declared.starter.Process.{Ghosts}
use Rattle.gtp_check_judge.specs.declared.asking.CheckCommand.{CheckCommand}
use Rattle.gtp_check_judge.specs.declared.asking.CheckCommand.TheVariants.{Match, FinalScore, Name, Version}
use Rattle.gtp_check_judge.specs.declared.asking.CheckCommand.TheVariants.{KnownCommand, ListCommands, PlayInFull}
use Rattle.gtp_check_judge.specs.declared.asking.CheckCommand.TheVariants.{Faulty, Required}
use Rattle.gtp_check_judge.specs.declared.asking.CheckCommand.TheVariants.{GenmoveInFull}
use Rattle.gtp_check_judge.specs.declared.dues.Due.{Due}
use Rattle.gtp_check_judge.specs.declared.dues.Due.TheVariants.{Succeeds, Fails, Places, Resizes, Scores, AnyReply}
use Rattle.gtp_check_judge.specs.declared.dues.Due.TheVariants.{Chooses, MayUndo, Lists}
use Rattle.gtp_check_judge.specs.declared.judging.Judgement.{Judgement}
use Rattle.gtp_check_judge.specs.declared.judging.Judgement.TheVariants.{Right, Plays, Resized, Undone, Opines, Wrong}
use Rattle.gtp_check_judge.specs.declared.unanswered.Asked.{Asked}
use Rattle.gtp_check_judge.specs.declared.exam.Exam.{Exam}
use Rattle.gtp_check_judge.specs.declared.exam.Finding.{Finding}
use Rattle.gtp_check_judge.specs.Dues.{after_check, after_due}
use Rattle.gtp_check_judge.specs.Judging.{oldest, has_id}
use Rattle.gtp_check_judge.specs.Exam.{Asks, Hears, Leaves, ReplyLeaves, IdLeaves, after_judged, with_learned, hearing, reply_to}
use Rattle.gtp_check_judge.specs.Exam.{with_rest}
use Rattle.gtp_check_talk.specs.declared.fault.Fault.{Fault}
use Rattle.gtp_check_talk.specs.Dialogues.{AreHeard, Converses, Dialogue, EndsSo, IsExchanged}
use Rattle.gtp_check_talk.specs.Dialogues.{IsHeard, IsRead}

-- ---- a command

command_rule : (game : GameRecord) (command : Command) → (after_check game (Match command)).rule ≡ game.rule
command_rule game (Boardsize size) = refl
command_rule game (Komi komi) = refl
command_rule game ClearBoard = refl
command_rule game (FixedHandicap stones) = refl
command_rule game (Play move) = refl
command_rule game (Genmove colour) = refl
command_rule game Undo = refl
command_rule game Quit = refl

check_rule : (game : GameRecord) (command : CheckCommand) → (after_check game command).rule ≡ game.rule
check_rule game (Match command) = command_rule game command
check_rule game FinalScore = refl
check_rule game Name = refl
check_rule game Version = refl
check_rule game (KnownCommand known) = refl
check_rule game ListCommands = refl
check_rule game (Faulty faulty) = refl
check_rule game (Required required) = refl
check_rule game (PlayInFull move) = refl
check_rule game (GenmoveInFull colour) = refl

due_rule : (game : GameRecord) (command : CheckCommand) (due : Due) → (after_due game command due).rule ≡ game.rule
due_rule game command Succeeds = check_rule game command
due_rule game command (Places size count) = check_rule game command
due_rule game command (Fails cause) = refl
due_rule game command (Resizes size) = refl
due_rule game command (Scores size komi) = refl
due_rule game command AnyReply = check_rule game command
due_rule game command (Chooses colour) = refl
due_rule game command MayUndo = refl
due_rule game command Lists = refl

asked_rule : (old : Exam) (command : CheckCommand) (new : Exam) → Asks old command new
    → new.game.rule ≡ old.game.rule
asked_rule old command new asks =
    ap (λ (e : Exam). e.game.rule) asks.new_is ∙ due_rule old.game command asks.due

-- ---- bytes

judged_rule : (exam : Exam) (got : Judgement) → (after_judged exam got).game.rule ≡ exam.game.rule
judged_rule exam Right = refl
judged_rule exam (Plays colour v) = refl
judged_rule exam (Resized size) = refl
judged_rule exam Undone = refl
judged_rule exam (Opines opinion) = refl
judged_rule exam (Wrong kind) = refl

id_rule : (exam : Exam) (entry : Asked) (reply : Reply) (same : Bool) (finding : Option Finding) (new : Exam)
    → IdLeaves exam (reply_to entry reply) same finding new → new.game.rule ≡ exam.game.rule
id_rule exam entry reply false finding new h = ap (λ (e : Exam). e.game.rule) h.1
id_rule exam entry reply true finding new h =
    ap (λ (e : Exam). e.game.rule) h.3 ∙ judged_rule (with_learned exam entry.command reply) h.0

reply_rule : (exam : Exam) (entry : Option Asked) (reply : Reply) (finding : Option Finding) (new : Exam)
    → ReplyLeaves exam entry reply finding new → new.game.rule ≡ exam.game.rule
reply_rule exam None reply finding new h = ap (λ (e : Exam). e.game.rule) h.1
reply_rule exam (Some entry) reply finding new h =
    id_rule exam entry reply (has_id reply.id entry.id) finding new h

leaves_rule : (exam : Exam) (read : Option (Result Reply ReplyFault)) (finding : Option Finding) (new : Exam)
    → Leaves exam read finding new → new.game.rule ≡ exam.game.rule
leaves_rule exam None finding new h = ap (λ (e : Exam). e.game.rule) h.1
leaves_rule exam (Some (Err shown)) finding new h = ap (λ (e : Exam). e.game.rule) h.1
leaves_rule exam (Some (Ok reply)) finding new h = reply_rule exam (oldest exam.unanswered) reply finding new h

hears_rule : (old : Exam) (bytes : List ℕ) (used : ℕ) (read : Option (Result Reply ReplyFault))
    (finding : Option Finding) (new : Exam) → Hears old bytes (hearing used read finding) new
    → new.game.rule ≡ old.game.rule
hears_rule old bytes used read finding new h = leaves_rule (with_rest old h.0) read finding new h.2

heard_rule : (old : Exam) (bytes : List ℕ) (used : ℕ) (read : Option (Result Reply ReplyFault))
    (finding : Option Finding) (new : Exam) → IsHeard old bytes (hearing used read finding) new
    → new.game.rule ≡ old.game.rule
heard_rule old bytes used read finding new heard = by old.up refl
  where
    by : (up : Bool) → old.up ≡ up → new.game.rule ≡ old.game.rule
    by true is = hears_rule old bytes used read finding new (heard.up is)
    by false is = ap (λ (e : Exam). e.game.rule) (heard.down is).2

-- ---- a conversation

module _ {P : Type 0} (known : Ghosts P) where
  bytes_rule : (bytes : List ℕ) (before : Dialogue P) (fault : Option Fault) (after : Dialogue P)
      → AreHeard bytes before fault after → after.exam.game.rule ≡ before.exam.game.rule
  bytes_rule bytes before None after heard =
      heard_rule before.exam bytes heard.used heard.read None after.exam heard.heard
  bytes_rule bytes before (Some fault) after heard =
      heard_rule before.exam bytes heard.used heard.read (Some heard.finding) after.exam heard.found

  read_rule : (before : Dialogue P) {fault : Option Fault} {after : Dialogue P}
      → IsRead known before fault after → after.exam.game.rule ≡ before.exam.game.rule
  read_rule before
      (IsRead.gives {fault = fault} {after = after} bytes next some gave unbroken taken heard) =
      bytes_rule bytes (record before { process = next }) fault after heard
  read_rule before (IsRead.ends next ended given taken) = refl
  read_rule before (IsRead.breaks next cut given taken) = refl

  exchanged_rule : (before : Dialogue P) {fault : Option Fault} {after : Dialogue P}
      → IsExchanged known before fault after → after.exam.game.rule ≡ before.exam.game.rule
  exchanged_rule before (IsExchanged.owes_nothing next none sent) = refl
  exchanged_rule before (IsExchanged.held {fault = fault} {after = after} owes some heard) =
      bytes_rule before.held (record before { held = [] }) fault after heard
  exchanged_rule before (IsExchanged.reads next owes none sent read) =
      read_rule (record before { process = next; waiting = [] }) read

  converses_rule : (start : Dialogue P) {now : Dialogue P}
      → Converses known start now → now.exam.game.rule ≡ start.exam.game.rule
  converses_rule start Converses.begins = refl
  converses_rule start (Converses.asks {before = before} {after = after} purpose command more asked) =
      asked_rule before.exam command after.exam asked.asks ∙ converses_rule start more
  converses_rule start (Converses.exchanges {before = before} more exchanged) =
      exchanged_rule before exchanged ∙ converses_rule start more

  pub rule_stays : (start after : Dialogue P) (fault : Option Fault)
      → EndsSo known start fault after → after.exam.game.rule ≡ start.exam.game.rule
  rule_stays start after None converses = converses_rule start converses
  rule_stays start after (Some fault) ends =
      exchanged_rule ends.before ends.exchanged ∙ converses_rule start ends.converses
