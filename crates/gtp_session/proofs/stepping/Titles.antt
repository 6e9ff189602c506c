-- The texts that an author has set, and those of the table.
use Rattle.std.proofs.Common.{◌≡◌, ℕ, Bool, true, false, Option, Some, None, List, [], refl, sym, ap, ◌∙◌}
use Rattle.std.proofs.Common.{lit≤, ◌||◌}
use Rattle.std.specs.Prelude.{codes, is_some, is_none, slice_get, option_and_then, if◌then◌else◌}
use Rattle.go_base.specs.declared.choices.Choice.{Choice}
use Rattle.go_base.specs.declared.colours.Colour.{Colour}
use Rattle.go_board.specs.Game.{GameRecord}
use Rattle.gtp_wire.specs.Words.{CommandWords}
use Rattle.gtp_wire.specs.Replies.{written_reply}
use Rattle.gtp_wire.specs.declared.lines.Line.{Line}
use Rattle.gtp_wire.specs.declared.lines.Line.TheVariants as line
use Rattle.gtp_session.specs.declared.commands.CommandName.{CommandName}
use Rattle.gtp_session.specs.declared.commands.CommandName.TheVariants as command
use Rattle.gtp_session.specs.Commands.{Answer, answer, answer_by, answer_to_named, argument, asked, asked_by_named}
use Rattle.gtp_session.specs.Commands.{command_named, ends, has_name, id_of, named_command, row_of, succeeds}
use Rattle.gtp_session.specs.OwnCommands.{known_text, names_with}
use Rattle.gtp_session.specs.Steps.{StepsState, IsTitle, author_text, author_text_to, is_other_line}
use Rattle.gtp_session.specs.StepsRuns.{Exchange, tables_reply, IsGivenBy, IsGiven, IsDefaultBy, IsDefaultAt, IsDefault}
use Rattle.gtp_session.specs.StepsRuns.{IsTables, IsTablesLine}
use Rattle.gtp_session.proofs.table.Names.{asks_genmove}

-- the name and the version of an engine whose author has set none
pub stepgo_title : IsTitle (codes "stepgo")
stepgo_title = record {
  few = lit≤ tt;
  fits = record { fits = lit≤ tt; shown = refl; single = refl; front = refl; end = refl };
}

pub first_title : IsTitle (codes "1.0")
first_title = record {
  few = lit≤ tt;
  fits = record { fits = lit≤ tt; shown = refl; single = refl; front = refl; end = refl };
}

-- ---- a line for which the author has set a text

-- what holds of the table's answer to such a line: it keeps the game, and the session goes on
record IsQuery (s : StepsState) (o : Option CommandName) (words : List (List ℕ)) (choice : Choice) : Type 0 where
  game : (answer_to_named s.game o words choice).game ≡ s.game
  goes_on : has_name (codes "quit") o ≡ false

word_query : (s : StepsState) (words : List (List ℕ)) (choice : Choice) (o : Option (List ℕ))
    → (answer_by (row_of command.KnownCommand) s.game o choice).game ≡ s.game
word_query s words choice None = refl
word_query s words choice (Some word) = refl

author_query : (s : StepsState) (o : Option CommandName) (words : List (List ℕ)) (choice : Choice) (text : List ℕ)
    → author_text s o words ≡ Some text → IsQuery s o words choice
author_query s None words choice text e = absurd (cc e)
author_query s (Some command.Name) words choice text e = record { game = refl; goes_on = refl }
author_query s (Some command.Version) words choice text e = record { game = refl; goes_on = refl }
author_query s (Some command.KnownCommand) words choice text e =
    record { game = word_query s words choice (argument (λ word. Some word) words 1); goes_on = refl }
author_query s (Some command.ListCommands) words choice text e = record { game = refl; goes_on = refl }
author_query s (Some c) words choice text e = absurd (cc e)

-- the table's answer to it keeps the game, and the session goes on
pub set_text_keeps : (s : StepsState) (l : Line) (choice : Choice) (text : List ℕ) → author_text_to s l ≡ Some text
    → ((answer s.game l choice).game ≡ s.game) × (ends l ≡ false)
set_text_keeps s line.TooLong choice text e = absurd (cc e)
set_text_keeps s (line.Command cl) choice text e =
    let query = author_query s (named_command cl.words) cl.words choice text e in (query.game, query.goes_on)

-- so does its answer to another command
other_keeps : (game : GameRecord) (o : Option CommandName) (words : List (List ℕ)) (choice : Choice) → is_none o ≡ true
    → ((answer_to_named game o words choice).game ≡ game) × (has_name (codes "quit") o ≡ false)
other_keeps game None words choice e = (refl, refl)
other_keeps game (Some c) words choice e = absurd (cc e)

pub other_line_keeps : (game : GameRecord) (l : Line) (choice : Choice) → is_other_line l ≡ true
    → ((answer game l choice).game ≡ game) × (ends l ≡ false)
other_line_keeps game line.TooLong choice e = absurd (cc e)
other_line_keeps game (line.Command cl) choice e = other_keeps game (named_command cl.words) cl.words choice e

-- ---- a line that asks for a choice has no text of the author's

choice_alone : (s : StepsState) (o : Option CommandName) (words : List (List ℕ)) (colour : Colour)
    → asked_by_named s.game o words ≡ Some colour → (author_text s o words ≡ None) × (is_none o ≡ false)
choice_alone s None words colour e = absurd (cc e)
choice_alone s (Some c) words colour e =
    let same = asks_genmove s.game c words colour e in
    (ap (λ (x : CommandName). author_text s (Some x) words) same, refl)

pub asked_alone : (s : StepsState) (l : Line) (colour : Colour) → asked s.game l ≡ Some colour
    → (author_text_to s l ≡ None) × (is_other_line l ≡ false)
asked_alone s line.TooLong colour e = absurd (cc e)
asked_alone s (line.Command cl) colour e = choice_alone s (named_command cl.words) cl.words colour e

-- ---- what the author leaves as the table has it

-- without commands of the author's own, `known_command` says what the table says
no_more_known : (word : List ℕ)
    → known_text [] word ≡ (if is_some (command_named word) then codes "true" else codes "false")
no_more_known word = by_table (is_some (command_named word))
  where
    by_table : (b : Bool) → (if b || false then codes "true" else codes "false")
        ≡ (if b then codes "true" else codes "false")
    by_table true = refl
    by_table false = refl

module _ (e : Exchange) (cl : CommandWords) (is : e.was.line ≡ line.Command cl) where
  -- the table's reply is a success of this text
  success_of : (o : Option CommandName) (text : List ℕ) → named_command cl.words ≡ o
      → answer_to_named e.was.game o cl.words e.choice ≡ succeeds e.was.game text
      → written_reply true (id_of e.was.line) text ≡ (tables_reply e).text
  success_of o text named given =
      sym (ap (λ (a : Answer). written_reply a.ok (id_of e.was.line) a.text)
      (ap (λ (l : Line). answer e.was.game l e.choice) is
      ∙ ap (λ (n : Option CommandName). answer_to_named e.was.game n cl.words e.choice) named ∙ given))

  by_word : (o : Option (List ℕ)) → slice_get cl.words 1 ≡ o → named_command cl.words ≡ Some command.KnownCommand
      → IsGivenBy e (option_and_then (λ word. Some (known_text e.was.commands word)) o) false
      → e.was.commands ≡ [] → e.reply ≡ (tables_reply e).text
  by_word None at named given none = given
  by_word (Some word) at named given none =
      given
      ∙ ap (λ (names : List (List ℕ)). written_reply true (id_of e.was.line) (known_text names word)) none
      ∙ success_of (Some command.KnownCommand) (known_text [] word) named
      (ap (λ (w : Option (List ℕ)). answer_by (row_of command.KnownCommand) e.was.game
      (option_and_then (λ word. Some word) w) e.choice) at
      ∙ ap (succeeds e.was.game) (sym (no_more_known word)))

  by_command : (o : Option CommandName) → named_command cl.words ≡ o
      → IsGivenBy e (author_text e.was o cl.words) (is_none o) → IsDefaultBy e o → e.reply ≡ (tables_reply e).text
  by_command None named given declined =
      declined
      ∙ sym (ap (λ (a : Answer). written_reply a.ok (id_of e.was.line) a.text)
      (ap (λ (l : Line). answer e.was.game l e.choice) is
      ∙ ap (λ (n : Option CommandName). answer_to_named e.was.game n cl.words e.choice) named))
  by_command (Some command.Name) named given name =
      given ∙ ap (written_reply true (id_of e.was.line)) name
      ∙ success_of (Some command.Name) (codes "stepgo") named refl
  by_command (Some command.Version) named given version =
      given ∙ ap (written_reply true (id_of e.was.line)) version
      ∙ success_of (Some command.Version) (codes "1.0") named refl
  by_command (Some command.KnownCommand) named given none = by_word (slice_get cl.words 1) refl named given none
  by_command (Some command.ListCommands) named given none =
      given
      ∙ ap (λ (names : List (List ℕ)). written_reply true (id_of e.was.line) (names_with names)) none
      ∙ success_of (Some command.ListCommands) (names_with []) named refl
  by_command (Some c) named given default = given

by_line : (e : Exchange) (l : Line) → e.was.line ≡ l → IsGivenBy e (author_text_to e.was l) (is_other_line l)
    → IsDefaultAt e l → e.reply ≡ (tables_reply e).text
by_line e line.TooLong is given default = given
by_line e (line.Command cl) is given default = by_command e cl is (named_command cl.words) refl given default

-- then the reply is the table's
pub default_reply : (e : Exchange) → IsGiven e → IsDefault e → e.reply ≡ (tables_reply e).text
default_reply e given default = by_line e e.was.line refl given default

default_command : (e : Exchange) (o : Option CommandName) → IsTables o → IsDefaultBy e o
default_command e None t = absurd t
default_command e (Some command.Name) t = absurd t
default_command e (Some command.Version) t = absurd t
default_command e (Some command.KnownCommand) t = absurd t
default_command e (Some command.ListCommands) t = absurd t
default_command e (Some c) t = tt

-- as it is of the commands for which he can set no text
pub default_line : (e : Exchange) (l : Line) → IsTablesLine l → IsDefaultAt e l
default_line e line.TooLong t = tt
default_line e (line.Command cl) t = default_command e (named_command cl.words) t
