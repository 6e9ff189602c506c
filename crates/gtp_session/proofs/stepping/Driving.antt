-- A session is fed as the engine of the definition is.
use Rattle.std.proofs.Common.{◌≡◌, ℕ, Bool, true, false, Option, Some, None, List, [], ◌∷◌, take, refl, sym, ap}
use Rattle.std.proofs.Common.{subst, ◌∙◌, arith}
use Rattle.std.specs.Prelude.{codes, is_none, is_some}
use Rattle.arrayvec.specs.ArrayVec.{ArrayVec}
use Rattle.go_base.specs.Size.{IsSize}
use Rattle.go_base.specs.declared.colours.Colour.{Colour}
use Rattle.go_base.specs.declared.choices.Choice.{Choice}
use Rattle.go_base.specs.declared.choices.Choice.TheVariants.{Resign}
use Rattle.go_board.specs.Game.{GameRecord}
use Rattle.gtp_wire.specs.Lines.{lines, ReadsLine}
use Rattle.gtp_wire.specs.Replies.{written_reply}
use Rattle.gtp_wire.specs.declared.lines.Line.{Line}
use Rattle.gtp_wire.specs.declared.lines.Line.TheVariants as line
use Rattle.gtp_session.specs.declared.commands.CommandName.{CommandName}
use Rattle.gtp_session.specs.declared.commands.CommandName.TheVariants as command
use Rattle.gtp_session.specs.declared.events.Wait.{Wait}
use Rattle.gtp_session.specs.declared.events.Wait.TheVariants as wait
use Rattle.gtp_session.specs.declared.events.Event.{Event}
use Rattle.gtp_session.specs.declared.events.StepsFed.{StepsFed}
use Rattle.gtp_session.specs.declared.events.Event.TheVariants as event
use Rattle.gtp_session.specs.Commands.{answer, asked, id_of, named_command}
use Rattle.gtp_session.specs.Engine.{Engine, Replies, Step, WrittenReply}
use Rattle.gtp_session.specs.Engine.Answers.{none}
use Rattle.gtp_session.specs.Policy.{May}
use Rattle.gtp_session.specs.Spoken.{IsFed}
use Rattle.gtp_session.specs.Steps.{StepsState, IsOpen, ReadsOn, FindsNone, Chooses, AnswersOther, wait_of}
use Rattle.gtp_session.specs.Steps.{event_of, author_text_to, is_other_line, after_wait, with_line, replied_by}
use Rattle.gtp_session.specs.Steps.{answered, texted, declined_text}
use Rattle.gtp_session.specs.StepsRuns.{Exchange, engine_of, IsDefaultBy, IsDefaultAt}
use Rattle.gtp_session.specs.private.Completing.{Completes, IsAskedBy, IsUnset}
use Rattle.gtp_session.proofs.choosing.Policies.{AllowsLawful}
use Rattle.gtp_session.proofs.engines.Replying.{Replies-over, Replies-found, Replies-line, StopsAtLine-found}
use Rattle.gtp_session.proofs.reply_texts.Spoken.{replies_spoken}
use Rattle.gtp_session.proofs.stepping.Runs.{default_given, given_where, own_answer, own_exchange, state_with}
use Rattle.gtp_session.proofs.stepping.Runs.{step_chosen, step_unasked}
use Rattle.gtp_session.proofs.stepping.Titles.{set_text_keeps, other_line_keeps}
use Rattle.gtp_session.proofs.stepping.Waits.{by-choice, by-nothing, by-no_answer, by-answer, by-unasked, event-reply}

-- the author leaves all as the table has it, and declines each other command
unset_command : (e : Exchange) (o : Option CommandName) → e.was.name ≡ codes "stepgo" → e.was.version ≡ codes "1.0"
    → e.was.commands ≡ []
    → (is_none o ≡ true → e.reply ≡ written_reply false (id_of e.was.line) declined_text) → IsDefaultBy e o
unset_command e None name version commands declined = declined refl
unset_command e (Some command.Name) name version commands declined = name
unset_command e (Some command.Version) name version commands declined = version
unset_command e (Some command.KnownCommand) name version commands declined = commands
unset_command e (Some command.ListCommands) name version commands declined = commands
unset_command e (Some c) name version commands declined = tt

unset_line : (e : Exchange) (l : Line) → e.was.name ≡ codes "stepgo" → e.was.version ≡ codes "1.0"
    → e.was.commands ≡ []
    → (is_other_line l ≡ true → e.reply ≡ written_reply false (id_of e.was.line) declined_text) → IsDefaultAt e l
unset_line e line.TooLong name version commands declined = tt
unset_line e (line.Command cl) name version commands declined =
    unset_command e (named_command cl.words) name version commands declined

module _ {P : Type 0} (may : May P) where
  -- nothing was found
  pub fed_none : (s new : StepsState) (p : P) (input : List ℕ) (used : ℕ) → s.ended ≡ false → FindsNone s input used new
      → IsFed may (engine_of s p) input used (engine_of new p) None false
  fed_none s new p input used goes_on found =
      subst (λ (x : StepsState). IsFed may (engine_of s p) input used (engine_of x p) None false) (sym found.new_is)
      (record {
        within = found.reads.within;
        replies = Replies-found may goes_on found.reads.finds none;
        no_genmove = λ _. refl;
        line = tt;
        spoken = tt;
        all = λ _ _. found.reads.none;
        over = λ e. absurd (cc (goes_on, e));
        unread = found.reads.finds.no_line;
      })

  -- nothing is used
  pub fed_over : (s : StepsState) (p : P) (input : List ℕ) → s.ended ≡ true → lines s.rest ≡ []
      → IsFed may (engine_of s p) input 0 (engine_of s p) None false
  fed_over s p input e unread =
      record {
        within = omega arith;
        replies = Replies-over may (engine_of s p) [] e;
        no_genmove = λ _. refl;
        line = tt;
        spoken = tt;
        all = λ _ on. absurd (cc (e, on));
        over = λ _. (refl, refl);
        unread = unread;
      }

  -- a line is read
  module _ (lawful : AllowsLawful may) (s : StepsState) (input : List ℕ) (used : ℕ) (line : Line) (rest : List ℕ)
      (is : IsUnset s) (goes_on : s.ended ≡ false) (size : IsSize s.game.size)
      (reads : ReadsLine s.rest input used (Some line) rest) where
    -- the text is the reply to it, and all is as before a line
    abbrev IsLineFed : P → P → StepsState → ArrayVec ℕ → Bool → Type 0
    IsLineFed p q to text genmove =
        IsFed may (engine_of s p) input used (engine_of to q) (Some text) genmove × IsUnset to

    line_fed : (p q : P) (game : GameRecord) (ended : Bool) (reply : List ℕ) (counts : Bool) (to : StepsState)
        (text : ArrayVec ℕ) (genmove : Bool)
        → to ≡ record (with_line s line rest) { wait = wait.Nothing; game = game; ended = ended; reply = reply }
        → text.items ≡ to.reply → genmove ≡ counts
        → Step may (state_with s p) line (record { text = reply; genmove = counts })
        (record { game = game; policy = q; ended = ended })
        → IsLineFed p q to text genmove
    line_fed p q game ended reply counts to text genmove to_is text_is genmove_is step =
        let new : Engine P = record { rest = rest; game = game; policy = q; ended = ended } in
        let given : WrittenReply = record { text = reply; genmove = counts } in
        let replies : Replies may (engine_of s p) (take used input) new (given ∷ []) =
        Replies-line may goes_on reads.finds step refl in
        let bytes : text.items ≡ reply = text_is ∙ ap (λ (x : StepsState). x.reply) to_is in
        rw (to_is, genmove_is) (
          record {
            within = reads.within;
            replies = rw bytes replies;
            no_genmove = λ none. absurd (cc none);
            line = StopsAtLine-found may goes_on reads.newline;
            spoken = rw bytes (replies_spoken may lawful (engine_of s p) new (take used input) _ size replies).0;
            all = λ none. absurd (cc none);
            over = λ e. absurd (cc (goes_on, e));
            unread = reads.finds.no_line;
          },
          record {
            waits_not = refl;
            unread = reads.finds.no_line;
            name = is.name;
            version = is.version;
            commands = is.commands;
          },
        )

    -- a line that asks for nothing
    replied_fed : (p : P) (set : Option (List ℕ)) (to : StepsState) (text : ArrayVec ℕ) (genmove : Bool)
        → asked s.game line ≡ None → is_other_line line ≡ false → author_text_to (with_line s line rest) line ≡ set
        → to ≡ replied_by (with_line s line rest) set → text.items ≡ to.reply → genmove ≡ false
        → IsLineFed p p to text genmove
    replied_fed p None to text genmove asks named set to_is text_is genmove_is =
        let was = with_line s line rest in
        let new = replied_by was None in
        line_fed p p new.game new.ended new.reply (is_some (asked s.game line)) to text genmove to_is text_is
        (genmove_is ∙ sym (ap is_some asks)) (step_unasked may was new p new.reply asks refl refl)
    replied_fed p (Some words) to text genmove asks named set to_is text_is genmove_is =
        let was = with_line s line rest in
        let new = replied_by was (Some words) in
        let e : Exchange = record { was = was; choice = Resign; own = None; reply = new.reply } in
        let keeps = set_text_keeps was line Resign words set in
        let declined : is_other_line line ≡ true → e.reply ≡ written_reply false (id_of line) declined_text =
        λ other. absurd (cc (named, other)) in
        line_fed p p new.game new.ended new.reply (is_some (asked s.game line)) to text genmove to_is text_is
        (genmove_is ∙ sym (ap is_some asks))
        (subst (λ (r : WrittenReply). Step may (state_with was p) line r (state_with new p))
        (default_given e (given_where e (Some words) false set named refl)
        (unset_line e line is.name is.version is.commands declined))
        (step_unasked may was new p new.reply asks (sym keeps.0) (goes_on ∙ sym keeps.1)))

    -- a line that asks for a choice, and the choice that is made
    chosen_fed : (p q : P) (mid : StepsState) (colour : Colour) (ch : Choice) (to : StepsState) (text : ArrayVec ℕ)
        (genmove : Bool) → asked s.game line ≡ Some colour
        → mid ≡ record (with_line s line rest) { wait = wait.Choice colour }
        → may p mid.game colour ch q → Chooses mid ch to → text.items ≡ to.reply → genmove ≡ true
        → IsLineFed p q to text genmove
    chosen_fed p q mid colour ch to text genmove asks mid_is m made text_is genmove_is =
        let was : StepsState = record (with_line s line rest) { wait = wait.Choice colour } in
        let new = answered was (answer was.game was.line ch) in
        line_fed p q new.game new.ended new.reply (is_some (asked s.game line)) to text genmove
        (made.new_is ∙ ap (λ (x : StepsState). answered x (answer x.game x.line ch)) mid_is) text_is
        (genmove_is ∙ sym (ap is_some asks))
        (step_chosen may was colour ch p q new.reply asks
        (subst (λ (x : StepsState). may p x.game colour ch q) mid_is m))

    -- a line of another command, which is declined
    declined_fed : (p : P) (mid to : StepsState) (text : ArrayVec ℕ) (genmove : Bool) → asked s.game line ≡ None
        → is_other_line line ≡ true → mid ≡ record (with_line s line rest) { wait = wait.Answer }
        → AnswersOther mid false declined_text to → text.items ≡ to.reply → genmove ≡ false
        → IsLineFed p p to text genmove
    declined_fed p mid to text genmove asks other mid_is made text_is genmove_is =
        let was : StepsState = record (with_line s line rest) { wait = wait.Answer } in
        let new = texted was false declined_text in
        let e : Exchange = own_exchange was false declined_text new in
        let keeps = other_line_keeps s.game line Resign other in
        line_fed p p new.game new.ended new.reply (is_some (asked s.game line)) to text genmove
        (made.new_is ∙ ap (λ (x : StepsState). texted x false declined_text) mid_is) text_is
        (genmove_is ∙ sym (ap is_some asks))
        (subst (λ (r : WrittenReply). Step may (state_with was p) line r (state_with new p))
        (default_given e
        (given_where e (author_text_to was line) true refl other
        (own_answer false declined_text, refl, made.fits, refl))
        (unset_line e line is.name is.version is.commands (λ _. refl)))
        (step_unasked may was new p new.reply asks (sym keeps.0) (goes_on ∙ sym keeps.1)))

event-asked : (w : Wait) (colour : Colour) → event.Asked colour ≡ event_of w → w ≡ wait.Choice colour
event-asked wait.Nothing colour e = cc
event-asked (wait.Choice c) colour e = cc
event-asked wait.Answer colour e = cc

event-other : (w : Wait) → event.Other ≡ event_of w → w ≡ wait.Answer
event-other wait.Nothing e = cc
event-other (wait.Choice c) e = cc
event-other wait.Answer e = refl

-- the calls of one feed: it reads on where it is open, and else uses nothing
pub record IsOneFeed (s mid : StepsState) (input : List ℕ) (fed : StepsFed) : Type 0 where
  pub reads : IsOpen s → ReadsOn s input fed.used fed.event mid
  pub over : s.ended ≡ true → (fed ≡ record { used = 0; event = event.Ended }) × (mid ≡ s)

module _ (s mid : StepsState) (input : List ℕ) (fed : StepsFed) (is : IsUnset s) (one : IsOneFeed s mid input fed) where
  open_reads : s.ended ≡ false → ReadsOn s input fed.used fed.event mid
  open_reads goes_on = one.reads (record { goes_on = goes_on; waits_not = is.waits_not })

  asked_open : (ev : Event) → ReadsOn s input fed.used ev mid → IsAskedBy mid ev
  asked_open event.More found = tt
  asked_open event.Reply found = tt
  asked_open (event.Asked colour) found =
      ap (λ (x : StepsState). x.wait)
      (found.new_is ∙ ap (after_wait (with_line s found.line found.rest)) (event-asked _ colour found.event_is))
  asked_open event.Other found =
      ap (λ (x : StepsState). x.wait)
      (found.new_is ∙ ap (after_wait (with_line s found.line found.rest)) (event-other _ found.event_is))
  asked_open event.Ended found = tt

  -- then it waits for what the event asks for
  pub is_asked : (b : Bool) → s.ended ≡ b → IsAskedBy mid fed.event
  is_asked true e =
      subst (λ (f : StepsFed). IsAskedBy mid f.event) (sym (one.over e).0) tt
  is_asked false e = asked_open fed.event (open_reads e)

  -- a chunk in which no line ends
  unset_none : {used : ℕ} → FindsNone s input used mid → IsUnset mid
  unset_none found =
      subst (λ (x : StepsState). IsUnset x) (sym found.new_is)
      (record {
        waits_not = is.waits_not;
        unread = found.reads.finds.no_line;
        name = is.name;
        version = is.version;
        commands = is.commands;
      })

  module _ {P : Type 0} (may : May P) where
    -- where it has ended, all stays
    completes_over : (p q : P) (to : StepsState) (answered : Option Bool) → s.ended ≡ true
        → Completes may mid p fed.event to q answered → Completes may mid p event.Ended to q answered
    completes_over p q to answered e done =
        subst (λ (ev : Event). Completes may mid p ev to q answered)
        (ap (λ (f : StepsFed). f.event) (one.over e).0) done

    none_open : (p q : P) (to : StepsState) (ev : Event) → s.ended ≡ false → ReadsOn s input fed.used ev mid
        → Completes may mid p ev to q None
        → IsFed may (engine_of s p) input fed.used (engine_of to q) None false × IsUnset to
    none_open p q to event.More goes_on found done =
        rw (done.0, done.1) (fed_none may s mid p input fed.used goes_on found, unset_none found)
    none_open p q to event.Reply goes_on found done = absurd (cc done.2)
    none_open p q to (event.Asked colour) goes_on found done = absurd (cc done.3)
    none_open p q to event.Other goes_on found done = absurd (cc done.2)
    none_open p q to event.Ended goes_on found done = absurd found

    -- where no line ended, nothing is answered
    pub nothing_fed : (p q : P) (to : StepsState) (b : Bool) → s.ended ≡ b → Completes may mid p fed.event to q None
        → IsFed may (engine_of s p) input fed.used (engine_of to q) None false × IsUnset to
    nothing_fed p q to true e done =
        let over = one.over e in
        let stays : Completes may mid p event.Ended to q None = completes_over p q to None e done in
        rw (stays.0, stays.1, over.0, over.1) (fed_over may s p input e is.unread, is)
    nothing_fed p q to false e done = none_open p q to fed.event e (open_reads e) done

    module _ (lawful : AllowsLawful may) where
      some_open : (p q : P) (ev : Event) (to : StepsState) (text : ArrayVec ℕ) (genmove : Bool) → s.ended ≡ false
          → IsSize s.game.size → ReadsOn s input fed.used ev mid
          → Completes may mid p ev to q (Some genmove) → text.items ≡ to.reply
          → IsFed may (engine_of s p) input fed.used (engine_of to q) (Some text) genmove × IsUnset to
      some_open p q event.More to text genmove goes_on size found done text_is = absurd (cc done.2)
      some_open p q event.Reply to text genmove goes_on size found done text_is =
          let asks : wait_of s.game found.line ≡ wait.Nothing = event-reply _ found.event_is in
          subst (λ (x : P). IsFed may (engine_of s p) input fed.used (engine_of to x) (Some text) genmove
          × IsUnset to)
          (sym done.1)
          (replied_fed may lawful s input fed.used found.line found.rest is goes_on size found.reads p
          (author_text_to (with_line s found.line found.rest) found.line) to text genmove
          (by-nothing _ _ asks) (by-no_answer _ _ asks) refl
          (done.0 ∙ found.new_is ∙ ap (after_wait (with_line s found.line found.rest)) asks) text_is (cc done.2))
      some_open p q (event.Asked colour) to text genmove goes_on size found done text_is =
          let asks : wait_of s.game found.line ≡ wait.Choice colour = event-asked _ colour found.event_is in
          chosen_fed may lawful s input fed.used found.line found.rest is goes_on size found.reads p q mid colour done.0
          to text genmove (by-choice _ _ colour asks)
          (found.new_is ∙ ap (after_wait (with_line s found.line found.rest)) asks) done.1 done.2 text_is (cc done.3)
      some_open p q event.Other to text genmove goes_on size found done text_is =
          let asks : wait_of s.game found.line ≡ wait.Answer = event-other _ found.event_is in
          subst (λ (x : P). IsFed may (engine_of s p) input fed.used (engine_of to x) (Some text) genmove
          × IsUnset to)
          (sym done.1)
          (declined_fed may lawful s input fed.used found.line found.rest is goes_on size found.reads p mid to text
          genmove (by-unasked _ _ asks) (by-answer _ _ asks)
          (found.new_is ∙ ap (after_wait (with_line s found.line found.rest)) asks) done.0 text_is (cc done.2))
      some_open p q event.Ended to text genmove goes_on size found done text_is = absurd found

      -- where a line ended, it is answered, by the policy's choice where one is asked for
      pub line_answered : (p q : P) (to : StepsState) (text : ArrayVec ℕ) (genmove : Bool) (b : Bool) → s.ended ≡ b
          → IsSize s.game.size → Completes may mid p fed.event to q (Some genmove) → text.items ≡ to.reply
          → IsFed may (engine_of s p) input fed.used (engine_of to q) (Some text) genmove × IsUnset to
      line_answered p q to text genmove true e size done text_is =
          let stays : Completes may mid p event.Ended to q (Some genmove) =
          completes_over p q to (Some genmove) e done in
          absurd (cc stays.2)
      line_answered p q to text genmove false e size done text_is =
          some_open p q fed.event to text genmove e size (open_reads e) done text_is
