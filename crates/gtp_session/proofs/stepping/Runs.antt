-- An author's engine is an engine of the definition.
use Rattle.std.proofs.Common.{◌≡◌, ◌≢◌, ℕ, Bool, true, false, Option, Some, None, List, [], ◌∷◌, ◌++◌, refl, sym, ap}
use Rattle.std.proofs.Common.{subst, ◌∙◌, map, take, append_assoc}
use Rattle.std.proofs.lemmas.List.{append-nil}
use Rattle.std.proofs.lemmas.List.Elements.{recursion_from_All, All-from_recursion}
use Rattle.std.specs.Prelude.{is_none, is_some}
use Rattle.std.specs.List.{AllByRecursion}
use Rattle.go_base.specs.declared.colours.Colour.{Colour}
use Rattle.go_base.specs.declared.choices.Choice.{Choice}
use Rattle.go_base.specs.declared.choices.Choice.TheVariants.{Resign}
use Rattle.go_base.proofs.general.Lists.{AllByRecursion-append}
use Rattle.gtp_wire.specs.declared.commands.Command.TheVariants.{Boardsize, Komi, ClearBoard, FixedHandicap, Play}
use Rattle.gtp_wire.specs.declared.commands.Command.TheVariants.{Genmove, Undo, Quit}
use Rattle.gtp_wire.specs.Lines.{lines, Finds}
use Rattle.gtp_wire.specs.Replies.{IsReplyText}
use Rattle.gtp_wire.specs.declared.lines.Line.{Line}
use Rattle.gtp_wire.specs.declared.lines.Line.TheVariants as line
use Rattle.gtp_session.specs.declared.commands.CommandName.{CommandName}
use Rattle.gtp_session.specs.declared.commands.CommandName.TheVariants as command
use Rattle.gtp_session.specs.declared.events.Wait.{Wait}
use Rattle.gtp_session.specs.declared.events.Wait.TheVariants as wait
use Rattle.gtp_session.specs.declared.events.Event.TheVariants as event
use Rattle.gtp_session.specs.Commands.{answer, asked, ends, named_command}
use Rattle.gtp_session.specs.Engine.{State, Step, Answers, WrittenReply, Replies}
use Rattle.gtp_session.specs.Engine.Answers.{none, more}
use Rattle.gtp_session.specs.Policy.{IsLawful, May}
use Rattle.gtp_session.specs.Steps.{StepsState, IsOpen, wait_of, event_of, author_text}
use Rattle.gtp_session.specs.Steps.{author_text_to, is_other_line, after_wait, with_line, replied_by, answered, texted}
use Rattle.gtp_session.specs.StepsRuns.{Goes, list_may, engine_of, OwnAnswer, Exchange, tables_reply, given_reply}
use Rattle.gtp_session.specs.StepsRuns.{IsGivenBy, IsGiven, IsDefault, IsTables, IsTablesLine}
use Rattle.gtp_session.specs.StepsRuns.{EachLineIsGivenOne, AuthorsEnginesAreEngines, RepliesAreGiven}
use Rattle.gtp_session.specs.StepsRuns.{DefaultsAreTheTables, TablesLinesAreTheTables, ControllersLinesAreTables}
use Rattle.gtp_session.proofs.engines.Replying.{Answers-then, succeeds_where_asked}
use Rattle.gtp_session.proofs.stepping.Titles.{set_text_keeps, other_line_keeps, asked_alone, default_reply}
use Rattle.gtp_session.proofs.stepping.Titles.{default_line}
use Rattle.gtp_session.proofs.stepping.Waits.{by-choice, by-nothing, by-no_answer, by-answer, by-unasked, event-reply}

-- what it has beside its text, with a policy
abbrev pub state_with : {P : Type 0} → StepsState → P → State P
state_with s policy = record { game = s.game; policy = policy; ended = s.ended }

abbrev line_given : Exchange → Line
line_given e = e.was.line

-- the line that waits, as a list
abbrev waiting : Wait → Line → List Line
waiting wait.Nothing line = []
waiting (wait.Choice colour) line = line ∷ []
waiting wait.Answer line = line ∷ []

map_push : {X Y : Type 0} (f : X → Y) (xs : List X) (x : X) → map f (xs ++ x ∷ []) ≡ map f xs ++ f x ∷ []
map_push f [] x = refl
map_push f (y ∷ xs) x = ap (λ ys. f y ∷ ys) (map_push f xs x)

-- ---- the commands for which an author can set no text

no_author_text : (s : StepsState) (o : Option CommandName) (words : List (List ℕ)) → IsTables o
    → author_text s o words ≡ None
no_author_text s None words t = absurd t
no_author_text s (Some command.Name) words t = absurd t
no_author_text s (Some command.Version) words t = absurd t
no_author_text s (Some command.KnownCommand) words t = absurd t
no_author_text s (Some command.ListCommands) words t = absurd t
no_author_text s (Some c) words t = refl

pub tables_line : (s : StepsState) (l : Line) → IsTablesLine l → author_text_to s l ≡ None
tables_line s line.TooLong t = refl
tables_line s (line.Command cl) t = no_author_text s (named_command cl.words) cl.words t

tables_named : (o : Option CommandName) → IsTables o → is_none o ≡ true → ⊥
tables_named None t e = t
tables_named (Some c) t e = cc

pub tables_not_other : (l : Line) → IsTablesLine l → is_other_line l ≡ true → ⊥
tables_not_other line.TooLong t e = cc
tables_not_other (line.Command cl) t e = tables_named (named_command cl.words) t e

-- ---- one line

-- a line that asks for nothing leaves what the table leaves
pub step_unasked : {P : Type 0} (may : May P) (s new : StepsState) (policy : P) (reply : List ℕ)
    → asked s.game s.line ≡ None → new.game ≡ (answer s.game s.line Resign).game → new.ended ≡ ends s.line
    → Step may (state_with s policy) s.line
    (tables_reply (record { was = s; choice = Resign; own = None; reply = reply })) (state_with new policy)
step_unasked may s new policy reply e game over =
    record {
      choice = Resign;
      policy = rw e refl;
      game = game;
      ended = over;
      text = refl;
      genmove = sym (succeeds_where_asked s.game s.line Resign);
    }

-- a choice that is made
pub step_chosen : {P : Type 0} (may : May P) (s : StepsState) (colour : Colour) (ch : Choice) (old new : P)
    (reply : List ℕ) → asked s.game s.line ≡ Some colour → may old s.game colour ch new
    → Step may (state_with s old) s.line
    (tables_reply (record { was = s; choice = ch; own = None; reply = reply }))
    (state_with (answered s (answer s.game s.line ch)) new)
step_chosen may s colour ch old new reply e allowed =
    record {
      choice = ch;
      policy = rw e allowed;
      game = refl;
      ended = refl;
      text = refl;
      genmove = sym (succeeds_where_asked s.game s.line ch);
    }

-- the table replies where the author has set no text
pub given_where : (e : Exchange) (set : Option (List ℕ)) (other : Bool) → author_text_to e.was e.was.line ≡ set
    → is_other_line e.was.line ≡ other → IsGivenBy e set other → IsGiven e
given_where e set other s o given = rw (s, o) given

-- a line that the author answered himself
abbrev pub own_answer : Bool → List ℕ → OwnAnswer
own_answer ok text = record { ok = ok; text = text }

abbrev pub own_exchange : StepsState → Bool → List ℕ → StepsState → Exchange
own_exchange was ok text new =
    record { was = was; choice = Resign; own = Some (own_answer ok text); reply = new.reply }

-- ---- runs

-- an engine that has ended: only what its author has set changes
record IsOver (a b : StepsState) : Type 0 where
  rest : b.rest ≡ a.rest
  game : b.game ≡ a.game
  ended : b.ended ≡ true
  waits_not : b.wait ≡ wait.Nothing

-- What holds between the beginning of a run and each later point.
record Follows (a : StepsState) (text : List ℕ) (choices : List Choice) (given : List Exchange) (b : StepsState)
    : Type 0 where
  answered : (left : List Choice)
      → Answers list_may (state_with a (choices ++ left)) (map line_given given) (map tables_reply given)
      (state_with b left)
  lines_are : (later : List ℕ)
      → lines (a.rest ++ (text ++ later)) ≡ map line_given given ++ (waiting b.wait b.line ++ lines (b.rest ++ later))
  each : AllByRecursion IsGiven given
  unread : lines b.rest ≡ []
  waits : b.wait ≢ wait.Nothing → b.wait ≡ wait_of b.game b.line
  goes_on : b.wait ≢ wait.Nothing → b.ended ≡ false
  idle : a.ended ≡ true → IsOver a b × (choices ≡ [])

-- one line more is answered
answers_push : {s0 s1 s2 : State (List Choice)} (given : List Exchange) (e : Exchange)
    → Answers list_may s0 (map line_given given) (map tables_reply given) s1 → s1.ended ≡ false
    → Step list_may s1 (line_given e) (tables_reply e) s2
    → Answers list_may s0 (map line_given (given ++ e ∷ [])) (map tables_reply (given ++ e ∷ [])) s2
answers_push given e before goes_on step =
    rw (map_push line_given given e, map_push tables_reply given e)
    (Answers-then list_may before (more goes_on step none))

module _ {a b : StepsState} {text : List ℕ} {choices : List Choice} {given : List Exchange}
    (f : Follows a text choices given b) where
  -- lines that are found in a further piece
  extended : {piece rest : List ℕ} {found : List Line} → b.wait ≡ wait.Nothing → Finds b.rest piece found rest
      → (later : List ℕ)
      → lines (a.rest ++ ((text ++ piece) ++ later)) ≡ map line_given given ++ (found ++ lines (rest ++ later))
  extended {piece} {rest} {found} e finds later =
      ap (λ (t : List ℕ). lines (a.rest ++ t)) (append_assoc text piece later) ∙ f.lines_are (piece ++ later)
      ∙ ap (λ (w : Wait). map line_given given ++ (waiting w b.line ++ lines (b.rest ++ (piece ++ later)))) e
      ∙ ap (λ (t : List Line). map line_given given ++ t) (finds.rest later)

  -- the lines, where the line that waits is answered
  given_more : (e : Exchange) (tail : List Line)
      → map line_given given ++ (line_given e ∷ tail) ≡ map line_given (given ++ e ∷ []) ++ tail
  given_more e tail =
      sym (append_assoc (map line_given given) (line_given e ∷ []) tail)
      ∙ ap (λ (t : List Line). t ++ tail) (sym (map_push line_given given e))

  not_over : IsOpen b → a.ended ≡ true → ⊥
  not_over is e = let over = (f.idle e).0.ended in cc

  follows_more : (piece rest : List ℕ) → IsOpen b → Finds b.rest piece [] rest
      → Follows a (text ++ piece) choices given (record b { rest = rest })
  follows_more piece rest is finds =
      record {
        answered = f.answered;
        lines_are = λ later. extended is.waits_not finds later
            ∙ ap (λ (w : Wait). map line_given given ++ (waiting w b.line ++ lines (rest ++ later))) (sym is.waits_not);
        each = f.each;
        unread = finds.no_line;
        waits = f.waits;
        goes_on = f.goes_on;
        idle = λ e. absurd (not_over is e);
      }

  follows_replied : (piece rest : List ℕ) (line : Line) (set : Option (List ℕ)) → IsOpen b
      → Finds b.rest piece (line ∷ []) rest → asked b.game line ≡ None → is_other_line line ≡ false
      → author_text_to (with_line b line rest) line ≡ set
      → Follows a (text ++ piece) choices
      (given ++ record {
        was = with_line b line rest;
        choice = Resign;
        own = None;
        reply = (replied_by (with_line b line rest) set).reply;
      } ∷ []) (replied_by (with_line b line rest) set)
  follows_replied piece rest line None is finds asks named own =
      let s = with_line b line rest in
      let new = replied_by s None in
      let e : Exchange = record { was = s; choice = Resign; own = None; reply = new.reply } in
      record {
        answered = λ left. answers_push given e (f.answered left) is.goes_on
            (step_unasked list_may s new left new.reply asks refl refl);
        lines_are = λ later. extended is.waits_not finds later ∙ given_more e (lines (rest ++ later));
        each = AllByRecursion-append IsGiven given (e ∷ []) f.each (given_where e None false own named refl, tt);
        unread = finds.no_line;
        waits = λ n. absurd (n refl);
        goes_on = λ n. absurd (n refl);
        idle = λ over. absurd (not_over is over);
      }
  follows_replied piece rest line (Some words) is finds asks named own =
      let s = with_line b line rest in
      let new = replied_by s (Some words) in
      let e : Exchange = record { was = s; choice = Resign; own = None; reply = new.reply } in
      let keeps = set_text_keeps s line Resign words own in
      record {
        answered = λ left. answers_push given e (f.answered left) is.goes_on
            (step_unasked list_may s new left new.reply asks (sym keeps.0) (is.goes_on ∙ sym keeps.1));
        lines_are = λ later. extended is.waits_not finds later ∙ given_more e (lines (rest ++ later));
        each = AllByRecursion-append IsGiven given (e ∷ []) f.each
            (given_where e (Some words) false own named refl, tt);
        unread = finds.no_line;
        waits = λ n. absurd (n refl);
        goes_on = λ n. absurd (n refl);
        idle = λ over. absurd (not_over is over);
      }

  follows_waits : (piece rest : List ℕ) (line : Line) (w : Wait) → IsOpen b → Finds b.rest piece (line ∷ []) rest
      → wait_of b.game line ≡ w → (event_of w ≡ event.Reply → ⊥)
      → Follows a (text ++ piece) choices given (after_wait (with_line b line rest) w)
  follows_waits piece rest line wait.Nothing is finds w n = absurd (n refl)
  follows_waits piece rest line (wait.Choice colour) is finds w n =
      record {
        answered = f.answered;
        lines_are = λ later. extended is.waits_not finds later;
        each = f.each;
        unread = finds.no_line;
        waits = λ _. sym w;
        goes_on = λ _. is.goes_on;
        idle = λ e. absurd (not_over is e);
      }
  follows_waits piece rest line wait.Answer is finds w n =
      record {
        answered = f.answered;
        lines_are = λ later. extended is.waits_not finds later;
        each = f.each;
        unread = finds.no_line;
        waits = λ _. sym w;
        goes_on = λ _. is.goes_on;
        idle = λ e. absurd (not_over is e);
      }

  -- the line that waits is answered
  waiting_more : (w : Wait) (e : Exchange) → b.wait ≡ w → line_given e ≡ b.line
      → waiting w b.line ≡ b.line ∷ [] → (later : List ℕ)
      → lines (a.rest ++ (text ++ later)) ≡ map line_given (given ++ e ∷ []) ++ lines (b.rest ++ later)
  waiting_more w e is same one later =
      f.lines_are later
      ∙ ap (λ (t : List Line). map line_given given ++ (t ++ lines (b.rest ++ later)))
      (ap (λ (v : Wait). waiting v b.line) is ∙ one ∙ ap (λ (l : Line). l ∷ []) (sym same))
      ∙ given_more e (lines (b.rest ++ later))

  follows_chosen : (colour : Colour) (ch : Choice) → b.wait ≡ wait.Choice colour → IsLawful b.game colour ch
      → Follows a text (choices ++ ch ∷ [])
      (given ++ record { was = b; choice = ch; own = None; reply = (answered b (answer b.game b.line ch)).reply } ∷ [])
      (answered b (answer b.game b.line ch))
  follows_chosen colour ch bw lawful =
      let waits : b.wait ≢ wait.Nothing = λ n. let wrong : wait.Choice colour ≡ wait.Nothing = sym bw ∙ n in cc in
      let asks : asked b.game b.line ≡ Some colour = by-choice _ _ colour (sym (f.waits waits) ∙ bw) in
      let new = answered b (answer b.game b.line ch) in
      let e : Exchange = record { was = b; choice = ch; own = None; reply = new.reply } in
      let alone = asked_alone b b.line colour asks in
      record {
        answered = λ left.
            subst (λ (l : List Choice). Answers list_may (state_with a l) (map line_given (given ++ e ∷ []))
            (map tables_reply (given ++ e ∷ [])) (state_with new left))
            (sym (append_assoc choices (ch ∷ []) left))
            (answers_push given e (f.answered (ch ∷ left)) (f.goes_on waits)
            (step_chosen list_may b colour ch (ch ∷ left) left new.reply asks (refl, lawful)));
        lines_are = waiting_more (wait.Choice colour) e bw refl refl;
        each = AllByRecursion-append IsGiven given (e ∷ []) f.each (given_where e None false alone.0 alone.1 refl, tt);
        unread = f.unread;
        waits = λ n. absurd (n refl);
        goes_on = λ n. absurd (n refl);
        idle = λ over. absurd (waits (f.idle over).0.waits_not);
      }

  follows_texted : (ok : Bool) (words : List ℕ) → b.wait ≡ wait.Answer → IsReplyText words
      → Follows a text choices
      (given ++ own_exchange b ok words (texted b ok words) ∷ []) (texted b ok words)
  follows_texted ok words bw fits =
      let waits : b.wait ≢ wait.Nothing = λ n. let wrong : wait.Answer ≡ wait.Nothing = sym bw ∙ n in cc in
      let asks : asked b.game b.line ≡ None = by-unasked _ _ (sym (f.waits waits) ∙ bw) in
      let other : is_other_line b.line ≡ true = by-answer _ _ (sym (f.waits waits) ∙ bw) in
      let keeps = other_line_keeps b.game b.line Resign other in
      let new = texted b ok words in
      let e : Exchange = own_exchange b ok words new in
      record {
        answered = λ left. answers_push given e (f.answered left) (f.goes_on waits)
            (step_unasked list_may b new left new.reply asks (sym keeps.0) (f.goes_on waits ∙ sym keeps.1));
        lines_are = waiting_more wait.Answer e bw refl refl;
        each = AllByRecursion-append IsGiven given (e ∷ []) f.each
            (given_where e (author_text_to b b.line) true refl other (own_answer ok words, refl, fits, refl), tt);
        unread = f.unread;
        waits = λ n. absurd (n refl);
        goes_on = λ n. absurd (n refl);
        idle = λ over. absurd (waits (f.idle over).0.waits_not);
      }

  -- what the author sets changes nothing else
  follows_set : (name version : List ℕ) (commands : List (List ℕ))
      → Follows a text choices given (record b { name = name; version = version; commands = commands })
  follows_set name version commands =
      record {
        answered = f.answered;
        lines_are = f.lines_are;
        each = f.each;
        unread = f.unread;
        waits = f.waits;
        goes_on = f.goes_on;
        idle = λ e. let over = f.idle e in (
          record {
            rest = over.0.rest;
            game = over.0.game;
            ended = over.0.ended;
            waits_not = over.0.waits_not;
          },
          over.1,
        );
      }

follows : {a b : StepsState} {text : List ℕ} {choices : List Choice} {given : List Exchange}
    → lines a.rest ≡ [] → a.wait ≡ wait.Nothing
    → Goes a text choices given b → Follows a text choices given b
follows {a} unread aw Goes.start =
    record {
      answered = λ left. none;
      lines_are = λ later. ap (λ (w : Wait). waiting w a.line ++ lines (a.rest ++ later)) (sym aw);
      each = tt;
      unread = unread;
      waits = λ n. absurd (n aw);
      goes_on = λ n. absurd (n aw);
      idle = λ over. (record { rest = refl; game = refl; ended = over; waits_not = aw }, refl);
    }
follows {a} unread aw (Goes.more {c = c} {text = text} {choices = choices} {given = given} input used g is found) =
    subst (λ (x : StepsState). Follows a (text ++ take used input) choices given x) (sym found.new_is)
    (follows_more (follows unread aw g) (take used input) c.rest is found.reads.finds)
follows {a} unread aw
    (Goes.replied {b = b} {text = text} {choices = choices} {given = given} input used g is found) =
    let s = with_line b found.line found.rest in
    let asks : wait_of b.game found.line ≡ wait.Nothing = event-reply _ found.event_is in
    subst (λ (x : StepsState). Follows a (text ++ take used input) choices
    (given ++ record { was = s; choice = Resign; own = None; reply = x.reply } ∷ []) x)
    (sym (found.new_is ∙ ap (λ (w : Wait). after_wait s w) asks))
    (follows_replied (follows unread aw g) (take used input) found.rest found.line (author_text_to s found.line) is
    found.reads.finds (by-nothing _ _ asks) (by-no_answer _ _ asks) refl)
follows {a} unread aw
    (Goes.waits {b = b} {text = text} {choices = choices} {given = given} input used kind n g is found) =
    subst (λ (x : StepsState). Follows a (text ++ take used input) choices given x) (sym found.new_is)
    (follows_waits (follows unread aw g) (take used input) found.rest found.line (wait_of b.game found.line) is
    found.reads.finds refl (λ e. n (found.event_is ∙ e)))
follows {a} unread aw (Goes.chosen {b = b} {text = text} {choices = choices} {given = given} ch g made) =
    subst (λ (x : StepsState). Follows a text (choices ++ ch ∷ [])
    (given ++ record { was = b; choice = ch; own = None; reply = x.reply } ∷ []) x)
    (sym made.new_is) (follows_chosen (follows unread aw g) made.colour ch made.asked made.lawful)
follows {a} unread aw (Goes.answered {b = b} {text = text} {choices = choices} {given = given} ok words g made) =
    subst (λ (x : StepsState). Follows a text choices (given ++ own_exchange b ok words x ∷ []) x)
    (sym made.new_is) (follows_texted (follows unread aw g) ok words made.asked made.fits)
follows {a} unread aw (Goes.named {b = b} {text = text} {choices = choices} {given = given} title g set) =
    subst (λ (x : StepsState). Follows a text choices given x) (sym set.new_is)
    (follows_set (follows unread aw g) title b.version b.commands)
follows {a} unread aw (Goes.versioned {b = b} {text = text} {choices = choices} {given = given} title g set) =
    subst (λ (x : StepsState). Follows a text choices given x) (sym set.new_is)
    (follows_set (follows unread aw g) b.name title b.commands)
follows {a} unread aw (Goes.added {b = b} {text = text} {choices = choices} {given = given} name g set) =
    subst (λ (x : StepsState). Follows a text choices given x) (sym set.new_is)
    (follows_set (follows unread aw g) b.name b.version (b.commands ++ name ∷ []))

-- ---- laws

pub each_line : EachLineIsGivenOne
each_line a b text choices given run =
    let f = follows run.unread run.from run.goes in
    sym (ap (λ (t : List ℕ). lines (a.rest ++ t)) (sym (append-nil text)) ∙ f.lines_are []
    ∙ ap (λ (w : Wait). map line_given given ++ (waiting w b.line ++ lines (b.rest ++ []))) run.to
    ∙ ap (λ (t : List ℕ). map line_given given ++ lines t) (append-nil b.rest)
    ∙ ap (λ (t : List Line). map line_given given ++ t) f.unread ∙ append-nil (map line_given given))

same_engine : (a b : StepsState) (choices left : List Choice) → IsOver a b → a.ended ≡ true → choices ≡ []
    → engine_of b left ≡ engine_of a (choices ++ left)
same_engine a b choices left over ended spent =
    rw (over.rest, over.game, over.ended, ended, spent) refl

pub authors_engines : AuthorsEnginesAreEngines
authors_engines a b text choices left given run =
    let f = follows run.unread run.from run.goes in
    let whole : map line_given given ≡ lines (a.rest ++ text) = each_line a b text choices given run in
    record {
      answered = subst (λ (t : List Line). Answers list_may (state_with a (choices ++ left)) t (map tables_reply given)
          (state_with b left)) whole (f.answered left);
      unread = λ _ later. f.lines_are later
          ∙ ap (λ (w : Wait). map line_given given ++ (waiting w b.line ++ lines (b.rest ++ later))) run.to
          ∙ ap (λ (t : List Line). t ++ lines (b.rest ++ later)) whole;
      idle = λ e. let over = f.idle e in same_engine a b choices left over.0 e over.1;
    }

pub replies_given : RepliesAreGiven
replies_given a b text choices given run =
    All-from_recursion IsGiven given (follows run.unread run.from run.goes).each

-- where the author leaves the answer as the table has it, the table's reply is given
pub default_given : (e : Exchange) → IsGiven e → IsDefault e → tables_reply e ≡ given_reply e
default_given e given default =
    ap (λ (t : List ℕ). record { text = t; genmove = is_some (asked e.was.game e.was.line) })
    (sym (default_reply e given default))

same_replies : (given : List Exchange) → AllByRecursion IsGiven given → AllByRecursion IsDefault given
    → map tables_reply given ≡ map given_reply given
same_replies [] all defaults = refl
same_replies (e ∷ given) all defaults =
    ap (λ (r : WrittenReply). r ∷ map tables_reply given) (default_given e all.0 defaults.0)
    ∙ ap (λ (rs : List WrittenReply). given_reply e ∷ rs) (same_replies given all.1 defaults.1)

pub defaults_tables : DefaultsAreTheTables
defaults_tables a b text choices left given run defaults =
    subst (λ (rs : List WrittenReply). Replies list_may (engine_of a (choices ++ left)) text (engine_of b left) rs)
    (same_replies given (follows run.unread run.from run.goes).each (recursion_from_All IsDefault given defaults))
    (authors_engines a b text choices left given run)

all_default : (given : List Exchange) → AllByRecursion IsTablesLine (map line_given given)
    → AllByRecursion IsDefault given
all_default [] all = tt
all_default (e ∷ given) all = (default_line e e.was.line all.0, all_default given all.1)

pub tables_tables : TablesLinesAreTheTables
tables_tables a b text choices left given run all =
    let whole = each_line a b text choices given run in
    defaults_tables a b text choices left given run
    (All-from_recursion IsDefault given (all_default given
    (subst (λ (t : List Line). AllByRecursion IsTablesLine t) (sym whole)
    (recursion_from_All IsTablesLine (lines (a.rest ++ text)) all))))

pub controllers_lines : ControllersLinesAreTables
controllers_lines id (Boardsize size) = tt
controllers_lines id (Komi komi) = tt
controllers_lines id ClearBoard = tt
controllers_lines id (FixedHandicap stones) = tt
controllers_lines id (Play move) = tt
controllers_lines id (Genmove colour) = tt
controllers_lines id Undo = tt
controllers_lines id Quit = tt
