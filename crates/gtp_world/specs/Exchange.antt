-- What passes between the controller and one engine: the commands that it was sent, and the replies that it owes.
use Rattle.std.specs.Prelude.{◌≡◌, ℕ, ◌≤◌, List, [], ◌∷◌, ◌++◌, take, Some, IfSome}
use Rattle.go_base.specs.Int.{most_int}
use Rattle.go_board.specs.Game.{GameRecord, fresh_game_under}
use Rattle.gtp_wire.specs.declared.commands.Command.{Command}
use Rattle.gtp_wire.specs.declared.lines.Line.{Line}
use Rattle.gtp_wire.specs.declared.replies.Reply.{Reply}
use Rattle.gtp_wire.specs.Commands.{written_command, IsWritable, IsInLimits}
use Rattle.gtp_wire.specs.Replies.{IsReplyText, written_reply}
use Rattle.gtp_session.specs.Policy.{IsLawful}
use Rattle.go_base.specs.declared.choices.Choice.{Choice}
use Rattle.gtp_session.specs.Commands.{Answer, answer, asked}
use Rattle.gtp_match.specs.declared.unanswered.SentCommand.{SentCommand}
use Rattle.gtp_match.specs.Script.{script}
use Rattle.gtp_session.specs.CommandAnswers.{line_of_command, after_command}
use Rattle.gtp_session.specs.Sent.{MayBeSent}
use Rattle.gtp_session.specs.Spoken.{reply_of_answer}

-- ---- commands and replies as bytes

-- a command that was sent, with its id
abbrev pub sent_bytes : SentCommand → List ℕ
sent_bytes sent = written_command (Some sent.id) sent.command

-- the line that these bytes are
abbrev pub sent_line : SentCommand → Line
sent_line sent = line_of_command (Some sent.id) sent.command

-- it can be written
pub record CanBeWritten (sent : SentCommand) : Type 0 where
  pub id : sent.id ≤ most_int
  pub writable : IsWritable sent.command
  pub limits : IsInLimits sent.command

-- commands, one after the other
abbrev pub all_sent_bytes : List SentCommand → List ℕ
all_sent_bytes [] = []
all_sent_bytes (sent ∷ later) = sent_bytes sent ++ all_sent_bytes later

abbrev pub reply_bytes : Reply → List ℕ
reply_bytes reply = written_reply reply.ok reply.id reply.text.items

-- replies, one after the other
abbrev pub all_reply_bytes : List Reply → List ℕ
all_reply_bytes [] = []
all_reply_bytes (reply ∷ later) = reply_bytes reply ++ all_reply_bytes later

-- an answer, with the command's id
abbrev pub reply_with_id : ℕ → Answer → Reply
reply_with_id id given = reply_of_answer (Some id) given

-- ---- answers

-- At the game before an engine answers the command as is given and continues with the game after it: for some choice,
-- which is lawful where its policy is asked for one.
pub record Answered (before : GameRecord) (sent : SentCommand) (given : Reply) (after : GameRecord) : Type 0 where
  pub choice : Choice
  pub lawful : IfSome (asked before (sent_line sent)) (λ colour. IsLawful before colour choice)
  pub game : after ≡ (answer before (sent_line sent) choice).game
  pub reply : given ≡ reply_with_id sent.id (answer before (sent_line sent) choice)
  -- the id and the text fit into a reply
  pub fits : sent.id ≤ most_int
  pub spoken : IsReplyText (answer before (sent_line sent) choice).text

-- From this game an engine was sent these commands. It answered the first of them by the replies, the others wait in
-- its rest or on their way to it, and `ahead` is the game that it is at.
abbrev pub Owes : GameRecord → List SentCommand → List Reply → List SentCommand → GameRecord → Type 0
Owes game sent [] waiting ahead = (waiting ≡ sent) × (ahead ≡ game)
Owes game [] (reply ∷ replies) waiting ahead = ⊥
Owes game (first ∷ sent) (reply ∷ replies) waiting ahead =
    (next : GameRecord) × Answered game first reply next × Owes next sent replies waiting ahead

-- each of the commands may be sent at the game where it is answered, whatever is answered to those before it
abbrev pub AllMayBeSent : GameRecord → List SentCommand → Type 0
AllMayBeSent game [] = Unit {0}
AllMayBeSent game (first ∷ sent) =
    MayBeSent game first.command
    × ((reply : Reply) (next : GameRecord) → Answered game first reply next → AllMayBeSent next sent)

-- ---- the script

-- the game after commands that went well
abbrev pub after_commands : GameRecord → List Command → GameRecord
after_commands game [] = game
after_commands game (command ∷ later) = after_commands (after_command game command) later

-- the game of a new engine under this game's ko rule, after the first `count` commands of the script that brings it to
-- this game
abbrev pub replayed : GameRecord → ℕ → GameRecord
replayed game count = after_commands (fresh_game_under game.rule) (take count (script game))
