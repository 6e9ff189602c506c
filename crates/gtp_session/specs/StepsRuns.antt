-- Runs of sans-IO engines, and the laws that they are engines of the definition.
use Rattle.std.specs.Prelude.{◌≡◌, ◌≢◌, ℕ, Bool, true, false, List, [], ◌∷◌, ◌++◌, map, take, All, Option, None, Some}
use Rattle.std.specs.Prelude.{is_some, codes}
use Rattle.gtp_wire.specs.declared.commands.Command.{Command}
use Rattle.gtp_wire.specs.declared.lines.Line.{Line}
use Rattle.gtp_wire.specs.declared.lines.Line.TheVariants as line
use Rattle.gtp_wire.specs.Lines.{lines}
use Rattle.gtp_wire.specs.Replies.{IsReplyText, written_reply}
use Rattle.go_base.specs.declared.choices.Choice.{Choice}
use Rattle.go_base.specs.declared.choices.Choice.TheVariants.{Resign}
use Rattle.gtp_session.specs.CommandAnswers.{line_of_command}
use Rattle.gtp_session.specs.declared.commands.CommandName.{CommandName}
use Rattle.gtp_session.specs.declared.commands.CommandName.TheVariants as command
use Rattle.gtp_session.specs.declared.events.Wait.TheVariants as wait
use Rattle.gtp_session.specs.declared.events.Event.{Event}
use Rattle.gtp_session.specs.declared.events.Event.TheVariants as event
use Rattle.gtp_session.specs.Commands.{answer, asked, id_of, named_command}
use Rattle.gtp_session.specs.Engine.{Engine, Replies, WrittenReply}
use Rattle.gtp_session.specs.Policy.{May, IsLawful}
use Rattle.gtp_session.specs.Steps.{StepsState, IsOpen, FindsNone, FindsLine, Chooses, AnswersOther, with_line}
use Rattle.gtp_session.specs.Steps.{SetsName, SetsVersion, AddsCommand, author_text_to, declined_text, is_other_line}

-- Which choices the author makes, in this order: the policy whose state is the list of those that are left may make the
-- first of them, where it is lawful, and no other.
abbrev pub list_may : May (List Choice)
list_may old game colour choice new = (old ≡ choice ∷ new) × IsLawful game colour choice

-- as an engine whose policy has this state, such as the list of the choices that are left
abbrev pub engine_of : {P : Type 0} → StepsState → P → Engine P
engine_of s policy = record { rest = s.rest; game = s.game; policy = policy; ended = s.ended }

-- ---- runs

-- the author's answer to a line of another command: whether it is a success, and its text
pub record OwnAnswer : Type 0 where
  pub ok : Bool
  pub text : List ℕ

-- One line that was answered: the engine as it was then, the line being the one that it read last; the choice that was
-- made, where the line asks for one; the answer that the author supplied, where he did; and the reply.
pub record Exchange : Type 0 where
  pub was : StepsState
  pub choice : Choice
  pub own : Option OwnAnswer
  pub reply : List ℕ

-- What calls do to it, one after the other: it uses this text, these choices are made, and these lines are answered. (A
-- call that is refused, and a chunk of which it uses nothing since it waits or has ended, change nothing.)
pub data Goes : StepsState → List ℕ → List Choice → List Exchange → StepsState → Type 0 where
  start : {a : StepsState} → Goes a [] [] [] a
  more : {a b c : StepsState} {text : List ℕ} {choices : List Choice} {given : List Exchange}
      (input : List ℕ) (used : ℕ) → Goes a text choices given b → IsOpen b → FindsNone b input used c
      → Goes a (text ++ take used input) choices given c
  replied : {a b c : StepsState} {text : List ℕ} {choices : List Choice} {given : List Exchange}
      (input : List ℕ) (used : ℕ) → Goes a text choices given b → IsOpen b
      → (found : FindsLine b input used event.Reply c)
      → Goes a (text ++ take used input) choices
      (given ++ record { was = with_line b found.line found.rest; choice = Resign; own = None; reply = c.reply } ∷ []) c
  waits : {a b c : StepsState} {text : List ℕ} {choices : List Choice} {given : List Exchange}
      (input : List ℕ) (used : ℕ) (kind : Event) → kind ≢ event.Reply
      → Goes a text choices given b → IsOpen b → FindsLine b input used kind c
      → Goes a (text ++ take used input) choices given c
  chosen : {a b c : StepsState} {text : List ℕ} {choices : List Choice} {given : List Exchange}
      (choice : Choice) → Goes a text choices given b → Chooses b choice c
      → Goes a text (choices ++ choice ∷ [])
      (given ++ record { was = b; choice = choice; own = None; reply = c.reply } ∷ []) c
  answered : {a b c : StepsState} {text : List ℕ} {choices : List Choice} {given : List Exchange}
      (ok : Bool) (answer : List ℕ) → Goes a text choices given b → AnswersOther b ok answer c
      → Goes a text choices (given ++ record {
        was = b;
        choice = Resign;
        own = Some (record { ok = ok; text = answer });
        reply = c.reply;
      } ∷ []) c
  named : {a b c : StepsState} {text : List ℕ} {choices : List Choice} {given : List Exchange}
      (title : List ℕ) → Goes a text choices given b → SetsName b title c → Goes a text choices given c
  versioned : {a b c : StepsState} {text : List ℕ} {choices : List Choice} {given : List Exchange}
      (title : List ℕ) → Goes a text choices given b → SetsVersion b title c → Goes a text choices given c
  added : {a b c : StepsState} {text : List ℕ} {choices : List Choice} {given : List Exchange}
      (name : List ℕ) → Goes a text choices given b → AddsCommand b name c → Goes a text choices given c

-- a run between two times at which the engine waits for nothing
pub record IsRun (a : StepsState) (text : List ℕ) (choices : List Choice) (given : List Exchange) (b : StepsState)
    : Type 0 where
  pub goes : Goes a text choices given b
  pub unread : lines a.rest ≡ []
  pub from : a.wait ≡ wait.Nothing
  pub to : b.wait ≡ wait.Nothing

-- ---- what was answered, and what the table answers

-- the reply of an engine of the definition to the line, in that game and by that choice
abbrev pub tables_reply : Exchange → WrittenReply
tables_reply e =
    let given = answer e.was.game e.was.line e.choice in
    record {
      text = written_reply given.ok (id_of e.was.line) given.text;
      genmove = is_some (asked e.was.game e.was.line);
    }

-- the reply that was given
abbrev pub given_reply : Exchange → WrittenReply
given_reply e = record { text = e.reply; genmove = is_some (asked e.was.game e.was.line) }

-- A line of another command has the answer that the author supplied: a success or a failure, and a text that a reply
-- may have. A line for which the author has set a text has a success of that text. Every other has the table's reply.
abbrev pub IsGivenBy : Exchange → Option (List ℕ) → Bool → Type 0
IsGivenBy e set true =
    (own : OwnAnswer) × (e.own ≡ Some own) × IsReplyText own.text
    × (e.reply ≡ written_reply own.ok (id_of e.was.line) own.text)
IsGivenBy e (Some text) false = e.reply ≡ written_reply true (id_of e.was.line) text
IsGivenBy e None false = e.reply ≡ (tables_reply e).text

abbrev pub IsGiven : Exchange → Type 0
IsGiven e = IsGivenBy e (author_text_to e.was e.was.line) (is_other_line e.was.line)

-- The author leaves the answer as the table has it: he declines, his name or version is the table's, or he has no
-- commands of his own. The other commands of the table ask for nothing of that.
abbrev pub IsDefaultBy : Exchange → Option CommandName → Type 0
IsDefaultBy e None = e.reply ≡ written_reply false (id_of e.was.line) declined_text
IsDefaultBy e (Some command.Name) = e.was.name ≡ codes "stepgo"
IsDefaultBy e (Some command.Version) = e.was.version ≡ codes "1.0"
IsDefaultBy e (Some command.KnownCommand) = e.was.commands ≡ []
IsDefaultBy e (Some command.ListCommands) = e.was.commands ≡ []
IsDefaultBy e (Some _) = Unit {0}

abbrev pub IsDefaultAt : Exchange → Line → Type 0
IsDefaultAt e line.TooLong = Unit {0}
IsDefaultAt e (line.Command command_line) = IsDefaultBy e (named_command command_line.words)

abbrev pub IsDefault : Exchange → Type 0
IsDefault e = IsDefaultAt e e.was.line

-- The command is one of those whose answers are the table's whatever the author has set: any that the table has
-- but `name`, `version`, `known_command` and `list_commands`.
abbrev pub IsTables : Option CommandName → Type 0
IsTables None = ⊥
IsTables (Some command.Name) = ⊥
IsTables (Some command.Version) = ⊥
IsTables (Some command.KnownCommand) = ⊥
IsTables (Some command.ListCommands) = ⊥
IsTables (Some _) = Unit {0}

abbrev pub IsTablesLine : Line → Type 0
IsTablesLine line.TooLong = Unit {0}
IsTablesLine (line.Command command_line) = IsTables (named_command command_line.words)

-- ---- laws

-- each line of the text is answered once, in order
abbrev pub EachLineIsGivenOne : Type 0
EachLineIsGivenOne =
    (a b : StepsState) (text : List ℕ) (choices : List Choice) (given : List Exchange)
    → IsRun a text choices given b → map (λ e. e.was.line) given ≡ lines (a.rest ++ text)

-- An author's engine is an engine of the definition, whose policy makes the author's choices, in any chunks: it goes
-- through the same games, and ends where that does. That one's replies are the table's.
abbrev pub AuthorsEnginesAreEngines : Type 0
AuthorsEnginesAreEngines =
    (a b : StepsState) (text : List ℕ) (choices left : List Choice) (given : List Exchange)
    → IsRun a text choices given b
    → Replies list_may (engine_of a (choices ++ left)) text (engine_of b left) (map tables_reply given)

-- What it replies is the table's, except for the texts that its author has set, and his answers to other commands.
abbrev pub RepliesAreGiven : Type 0
RepliesAreGiven =
    (a b : StepsState) (text : List ℕ) (choices : List Choice) (given : List Exchange)
    → IsRun a text choices given b → All IsGiven given

-- where he leaves each answer as the table has it, its bytes are those of the engine of the definition
abbrev pub DefaultsAreTheTables : Type 0
DefaultsAreTheTables =
    (a b : StepsState) (text : List ℕ) (choices left : List Choice) (given : List Exchange)
    → IsRun a text choices given b → All IsDefault given
    → Replies list_may (engine_of a (choices ++ left)) text (engine_of b left) (map given_reply given)

-- and so are they over a text all of whose lines name such commands, whatever he has set
abbrev pub TablesLinesAreTheTables : Type 0
TablesLinesAreTheTables =
    (a b : StepsState) (text : List ℕ) (choices left : List Choice) (given : List Exchange)
    → IsRun a text choices given b → All IsTablesLine (lines (a.rest ++ text))
    → Replies list_may (engine_of a (choices ++ left)) text (engine_of b left) (map given_reply given)

-- each command that a controller sends is one of them, with any id or none
abbrev pub ControllersLinesAreTables : Type 0
ControllersLinesAreTables = (id : Option ℕ) (command : Command) → IsTablesLine (line_of_command id command)
