-- An engine whose author supplies its choices, and answers the commands that the table doesn't have.
use Rattle.std.specs.Prelude.{◌≡◌, ◌≢◌, ℕ, Bool, true, false, List, [], ◌∷◌, ◌++◌, length, ◌≤◌, Option, None, Some}
use Rattle.std.specs.Prelude.{is_none, codes}
use Rattle.go_base.specs.declared.colours.Colour.{Colour}
use Rattle.go_base.specs.declared.choices.Choice.{Choice}
use Rattle.go_base.specs.declared.choices.Choice.TheVariants.{Resign, Play}
use Rattle.go_board.specs.declared.faults.PlayFault.{PlayFault}
use Rattle.go_board.specs.declared.rules.KoRule.{KoRule}
use Rattle.go_board.specs.Game.{GameRecord, fresh_game_under}
use Rattle.go_board.specs.Refusals.{RefusesVertex}
use Rattle.gtp_wire.specs.declared.lines.Line.{Line}
use Rattle.gtp_wire.specs.declared.lines.Line.TheVariants as line
use Rattle.gtp_wire.specs.Lines.{ReadsLine, lines}
use Rattle.gtp_wire.specs.Replies.{written_reply, IsReplyText}
use Rattle.gtp_session.specs.declared.commands.CommandName.{CommandName}
use Rattle.gtp_session.specs.declared.commands.CommandName.TheVariants as command
use Rattle.gtp_session.specs.declared.events.Wait.{Wait}
use Rattle.gtp_session.specs.declared.events.Wait.TheVariants as wait
use Rattle.gtp_session.specs.declared.events.Event.{Event}
use Rattle.gtp_session.specs.declared.events.Event.TheVariants as event
use Rattle.gtp_session.specs.declared.events.ChoiceFault.{ChoiceFault}
use Rattle.gtp_session.specs.declared.events.ChoiceFault.TheVariants as choice_fault
use Rattle.gtp_session.specs.declared.events.AnswerFault.{AnswerFault}
use Rattle.gtp_session.specs.declared.events.AnswerFault.TheVariants as answer_fault
use Rattle.gtp_session.specs.Commands.{Answer, answer, argument, asked, ends, id_of, named_command}
use Rattle.gtp_session.specs.OwnCommands.{AreOwnCommands, MayBeAdded, known_text, names_with}
use Rattle.gtp_session.specs.Policy.{IsLawful}
use Rattle.gtp_session.specs.Spoken.{HasIntId, IsSpoken}

-- What such an engine is seen as: the text that it was given and has not read as lines, the line that it read last,
-- what it waits for, its game, whether its session has ended, and the bytes of its last reply; and what its author has
-- set: the texts that it answers to `name` and `version`, and the names of commands of his own, in the order in which
-- they were added.
pub record StepsState : Type 0 where
  pub rest : List ℕ
  pub line : Line
  pub wait : Wait
  pub game : GameRecord
  pub ended : Bool
  pub reply : List ℕ
  pub name : List ℕ
  pub version : List ℕ
  pub commands : List (List ℕ)

-- It was given nothing, and its author has set nothing: its name and its version are the table's.
abbrev pub fresh_steps : KoRule → StepsState
fresh_steps rule =
    record {
      rest = [];
      line = line.TooLong;
      wait = wait.Nothing;
      game = fresh_game_under rule;
      ended = false;
      reply = [];
      name = codes "stepgo";
      version = codes "1.0";
      commands = [];
    }

-- ---- what a line asks the author for

-- whether the line is of a command that the table doesn't have
abbrev pub is_other_line : Line → Bool
is_other_line line.TooLong = false
is_other_line (line.Command command_line) = is_none (named_command command_line.words)

-- a choice for this colour, if for any; else an answer, if the line is of another command; else nothing
abbrev pub wait_by : Option Colour → Bool → Wait
wait_by (Some colour) other = wait.Choice colour
wait_by None true = wait.Answer
wait_by None false = wait.Nothing

-- What the author is asked for by a line: a choice, where the line asks for one; an answer, where the table doesn't
-- have its command; or nothing.
abbrev pub wait_of : GameRecord → Line → Wait
wait_of game line = wait_by (asked game line) (is_other_line line)

-- ---- what the author has set

-- The text of a success in which what the author has set is named, for the words of a line with this command: his
-- name, his version, and what `known_command` and `list_commands` say with his commands. None where the answer is the
-- table's alone.
abbrev pub author_text : StepsState → Option CommandName → List (List ℕ) → Option (List ℕ)
author_text s None words = None
author_text s (Some command.Name) words = Some s.name
author_text s (Some command.Version) words = Some s.version
author_text s (Some command.KnownCommand) words = argument (λ word. Some (known_text s.commands word)) words 1
author_text s (Some command.ListCommands) words = Some (names_with s.commands)
author_text s (Some _) words = None

abbrev pub author_text_to : StepsState → Line → Option (List ℕ)
author_text_to s line.TooLong = None
author_text_to s (line.Command command_line) = author_text s (named_command command_line.words) command_line.words

-- ---- answers

-- The line that was read last is answered by this, and the game is the answer's.
abbrev pub answered : StepsState → Answer → StepsState
answered s given =
    record s {
      wait = wait.Nothing;
      game = given.game;
      ended = ends s.line;
      reply = written_reply given.ok (id_of s.line) given.text;
    }

-- The line that was read last is answered by a success or a failure of this text, and the game stays.
abbrev pub texted : StepsState → Bool → List ℕ → StepsState
texted s ok text = record s { wait = wait.Nothing; reply = written_reply ok (id_of s.line) text }

-- by this text, or else by the table (no choice counts there, since the line asks for none)
abbrev pub replied_by : StepsState → Option (List ℕ) → StepsState
replied_by s None = answered s (answer s.game s.line Resign)
replied_by s (Some text) = texted s true text

-- The line that was read last, which asks the author for nothing, is answered.
abbrev pub replied : StepsState → StepsState
replied s = replied_by s (author_text_to s s.line)

-- The line that was read last waits for this; or it is answered, where this is nothing.
abbrev pub after_wait : StepsState → Wait → StepsState
after_wait s wait.Nothing = replied s
after_wait s (wait.Choice colour) = record s { wait = wait.Choice colour }
after_wait s wait.Answer = record s { wait = wait.Answer }

-- this line is read, and this text is left
abbrev pub with_line : StepsState → Line → List ℕ → StepsState
with_line s line rest = record s { line = line; rest = rest }

-- the line is read, and waits or is answered
abbrev pub after_line : StepsState → Line → List ℕ → StepsState
after_line s line rest = after_wait (with_line s line rest) (wait_of s.game line)

-- ---- calls

-- it reads on: its session has not ended, and it waits for nothing
pub record IsOpen (s : StepsState) : Type 0 where
  pub goes_on : s.ended ≡ false
  pub waits_not : s.wait ≡ wait.Nothing

-- what is reported of a line that waits for this: a reply, where that is nothing
abbrev pub event_of : Wait → Event
event_of wait.Nothing = event.Reply
event_of (wait.Choice colour) = event.Asked colour
event_of wait.Answer = event.Other

-- all of the chunk is used, and no line that has a word ends in it
pub record FindsNone (old : StepsState) (input : List ℕ) (used : ℕ) (new : StepsState) : Type 0 where
  pub reads : ReadsLine old.rest input used None new.rest
  pub new_is : new ≡ record old { rest = new.rest }

-- the chunk is used up to the end of the first line, and that line is read
pub record FindsLine (old : StepsState) (input : List ℕ) (used : ℕ) (event : Event) (new : StepsState) : Type 0 where
  pub line : Line
  pub rest : List ℕ
  pub reads : ReadsLine old.rest input used (Some line) rest
  pub new_is : new ≡ after_line old line rest
  pub event_is : event ≡ event_of (wait_of old.game line)

-- an engine that is open reads a chunk
abbrev pub ReadsOn : StepsState → List ℕ → ℕ → Event → StepsState → Type 0
ReadsOn old input used event.More new = FindsNone old input used new
ReadsOn old input used event.Reply new = FindsLine old input used event.Reply new
ReadsOn old input used (event.Asked colour) new = FindsLine old input used (event.Asked colour) new
ReadsOn old input used event.Other new = FindsLine old input used event.Other new
ReadsOn old input used event.Ended new = ⊥

-- A choice that is asked for, and that is lawful, is made and answered.
pub record Chooses (old : StepsState) (choice : Choice) (new : StepsState) : Type 0 where
  pub colour : Colour
  pub asked : old.wait ≡ wait.Choice colour
  pub lawful : IsLawful old.game colour choice
  pub new_is : new ≡ answered old (answer old.game old.line choice)

-- why a choice isn't lawful: the first cause
abbrev pub IsUnlawful : GameRecord → Colour → Choice → PlayFault → Type 0
IsUnlawful game colour Resign fault = ⊥
IsUnlawful game colour (Play vertex) fault = RefusesVertex game colour vertex fault

-- why a choice isn't made: none is asked for, or else it isn't lawful
abbrev pub RefusesChoice : StepsState → Choice → ChoiceFault → Type 0
RefusesChoice s choice choice_fault.NotAsked = (colour : Colour) → s.wait ≢ wait.Choice colour
RefusesChoice s choice (choice_fault.Illegal fault) =
    (colour : Colour) × (s.wait ≡ wait.Choice colour) × IsUnlawful s.game colour choice fault

-- The author's answer to a line of another command is given: a text that a reply may have.
pub record AnswersOther (old : StepsState) (ok : Bool) (text : List ℕ) (new : StepsState) : Type 0 where
  pub asked : old.wait ≡ wait.Answer
  pub fits : IsReplyText text
  pub new_is : new ≡ texted old ok text

-- why an answer isn't given: none is asked for, or else no reply may have its text
abbrev pub RefusesAnswer : StepsState → List ℕ → AnswerFault → Type 0
RefusesAnswer s text answer_fault.NotAsked = s.wait ≢ wait.Answer
RefusesAnswer s text answer_fault.BadText = (s.wait ≡ wait.Answer) × ¬ IsReplyText text

-- what is answered to a line that the author declines: what the table answers to an unknown command
abbrev pub declined_text : List ℕ
declined_text = codes "unknown command"

-- a name or a version: a text that a reply may have, of at most 200 bytes
pub record IsTitle (text : List ℕ) : Type 0 where
  pub few : length text ≤ 200
  pub fits : IsReplyText text

-- from now on this is answered to `name`, and all else stays
pub record SetsName (old : StepsState) (text : List ℕ) (new : StepsState) : Type 0 where
  pub title : IsTitle text
  pub new_is : new ≡ record old { name = text }

-- from now on this is answered to `version`, and all else stays
pub record SetsVersion (old : StepsState) (text : List ℕ) (new : StepsState) : Type 0 where
  pub title : IsTitle text
  pub new_is : new ≡ record old { version = text }

-- another command of the author's own is known from now on, and all else stays
pub record AddsCommand (old : StepsState) (name : List ℕ) (new : StepsState) : Type 0 where
  pub may : MayBeAdded old.commands name
  pub new_is : new ≡ record old { commands = old.commands ++ name ∷ [] }

-- What holds at any time. No whole line is held back. It waits only for what the line that it read last asks for, and
-- then its session has not ended. Its last reply, where there was one, is one reply. What its author has set are titles
-- and names of custom commands.
pub record IsStepsState (s : StepsState) : Type 0 where
  pub unread : lines s.rest ≡ []
  pub waits : s.wait ≢ wait.Nothing → s.wait ≡ wait_of s.game s.line
  pub goes_on : s.wait ≢ wait.Nothing → s.ended ≡ false
  pub id : HasIntId s.line
  pub spoken : s.reply ≢ [] → IsSpoken s.reply
  pub name : IsTitle s.name
  pub version : IsTitle s.version
  pub commands : AreOwnCommands s.commands
