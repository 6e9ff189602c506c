-- What trials leave as it is, and what a trial shows that ended like the conversation that was found.
use Rattle.std.proofs.Common.{◌≡◌, ◌∙◌, refl, subst, true, List, Option, None, Some}
use Rattle.go_board.specs.declared.rules.KoRule.{KoRule}
use Rattle.gtp_process.specs.declared.starter.Ending.{Ending}
use Rattle.gtp_process.specs.declared.starter.Process.{Ghosts}
use Rattle.gtp_process.specs.Starts.{Attempts, program_line}
use Rattle.gtp_check_judge.specs.declared.asking.CheckCommand.{CheckCommand}
use Rattle.gtp_check_judge.specs.Check.{started}
use Rattle.gtp_check_judge.specs.Exam.{begun}
use Rattle.gtp_check_course.specs.declared.unasked.Unasked.{Unasked}
use Rattle.gtp_check_shortening.specs.declared.flat.Shortening.{Shortening}
use Rattle.gtp_check_shortening.specs.Reduction.{Reduction}
use Rattle.gtp_check_talk.specs.declared.fault.Fault.{Fault}
use Rattle.gtp_check_talk.specs.declared.fault.Fault.TheVariants.{CutOff, Wrote}
use Rattle.gtp_check_talk.specs.declared.notes.Notes.{Notes}
use Rattle.gtp_check_talk.specs.Dialogues.{AsksForMore, Converses, Dialogue, EndsWrong, IsTrial, Spares, SparesToEnd}
use Rattle.gtp_check_talk.specs.Dialogues.{Wrong}
use Rattle.gtp_check_talk.specs.Dialogues.{begun_with, wrong_with}
use Rattle.gtp_check_talk.specs.Laws.{ComplaintsAreJustified, KoRulesStay, LossesAreNoWrongAnswers}
use Rattle.gtp_check_talk.specs.Laws.{SilenceSaysAllIsRight}
use Rattle.gtp_check_course.specs.declared.plan.Plan.{Plan}
use Rattle.gtp_check_app.specs.RunLaws.{EndAlike, IsGrounded, IsShownBy, IsStarted, Starts, starts_of}
use Rattle.gtp_check_talk.specs.Dialogues.{Standing, Trial}
use Rattle.gtp_check_app.specs.Turns.{standing_in}
use Rattle.gtp_check_app.specs.Turns.{IsReduced, IsShortened, IsTried, Moment, Reduces, Shortens, State, TriesOne}
use Rattle.gtp_check_app.specs.Trials.{LastGames, or_else}
use Rattle.gtp_check_app.proofs.InStarts.{Grow, grounded_since, grounded_until, grow_more, just_started}
use Rattle.gtp_check_app.proofs.Shortening.{one_asks, reduces_asks, shortens_asks}

-- what there is is one thing
pub one_there : {A : Type 0} {one other : A} → Some one ≡ Some other → one ≡ other
one_there same = cc same

-- what was found, the engine and the ko rule are as before
pub record Stays {P : Type 0} (before after : State P) : Type 0 where
  pub tally : after.tally ≡ before.tally
  pub engine : after.engine ≡ before.engine
  pub rule : after.check.exam.game.rule ≡ before.check.exam.game.rule

pub unchanged : {P : Type 0} (now : State P) → Stays now now
unchanged now = record { tally = refl; engine = refl; rule = refl }

pub both_stay : {P : Type 0} (before mid after : State P) → Stays before mid → Stays mid after → Stays before after
both_stay before mid after one other = record {
  tally = other.tally ∙ one.tally;
  engine = other.engine ∙ one.engine;
  rule = other.rule ∙ one.rule;
}

-- the laws of conversations that are used
pub record Laws {P : Type 0} (known : Ghosts P) : Type 0 where
  pub just : ComplaintsAreJustified known
  pub lost : LossesAreNoWrongAnswers known
  pub stays : KoRulesStay known
  pub silent : SilenceSaysAllIsRight known

module _ {P : Type 0} (known : Ghosts P) (plan : Plan) (found : Wrong) (rule : KoRule) where
  -- what was tried has its ground, and ended like what was found
  pub record IsFair (before after : Attempts P) (tried : Wrong) : Type 0 where
    pub grounded : IsGrounded known rule (starts_of plan before after) tried
    pub alike : EndAlike tried found

  -- the same where more starts are looked at: those before, and those after
  pub fair_from : (first before after : Attempts P) (tried : Wrong) → Grow first before
      → IsFair before after tried → IsFair first after tried
  fair_from first before after tried grows fair = record {
    grounded = grounded_since known rule plan first before after tried grows fair.grounded;
    alike = fair.alike;
  }

  fair_since : (first before after : Attempts P) (tried : Wrong)
      → AsksForMore (program_line plan.words.items) first before
      → IsFair before after tried → IsFair first after tried
  fair_since first before after tried more =
      fair_from first before after tried (grow_more (program_line plan.words.items) first before more)

  fair_until : (before after last : Attempts P) (tried : Wrong)
      → AsksForMore (program_line plan.words.items) after last
      → IsFair before after tried → IsFair before last tried
  fair_until before after last tried more fair = record {
    grounded = grounded_until known rule plan before after last tried more fair.grounded;
    alike = fair.alike;
  }

  -- what comes of a trial: what was found in it, if anything, has its ground
  record Comes (before : Moment P) (result : Option Wrong) (after : Moment P) : Type 0 where
    stays : Stays before.state after.state
    fair : (tried : Wrong) → result ≡ Some tried → IsFair before.asked after.asked tried

  nothing_comes : (now : Moment P) → Comes now None now
  nothing_comes now = record { stays = unchanged now.state; fair = λ tried is. absurd (cc is) }

  later : (before mid after : Moment P) (result : Option Wrong) → Stays before.state mid.state
      → AsksForMore (program_line plan.words.items) before.asked mid.asked
      → Comes mid result after → Comes before result after
  later before mid after result one more other = record {
    stays = both_stay before.state mid.state after.state one other.stays;
    fair = λ tried is. fair_since before.asked mid.asked after.asked tried more (other.fair tried is);
  }

module _ {P : Type 0} (known : Ghosts P) (laws : Laws known) where
  -- ---- what a conversation shows that ended with something wrong

  shown_by : (rule : KoRule) (process : P) (first : Notes) (fault : Fault) (end : Dialogue P)
      → EndsWrong known (begun_with (begun rule true) process first) fault end
      → IsShownBy known rule process fault end
  shown_by rule process first (Wrote kind) end ends =
      IsShownBy.wrongly (laws.just rule process first kind end ends)
  shown_by rule process first (CutOff cause) end ends =
      IsShownBy.lost (laws.lost rule process first cause end ends)

  pub grounded_by : (rule : KoRule) (starts : Starts P) (process : P) (first : Notes) (fault : Fault)
      (end : Dialogue P) (ending : Ending) → IsStarted starts process
      → EndsWrong known (begun_with (begun rule true) process first) fault end
      → known.leaves end.process ending → IsGrounded known rule starts (wrong_with fault end ending)
  grounded_by rule starts process first fault end ending started_so ends left = record {
    process = process;
    started = started_so;
    end = end;
    ending = ending;
    is = refl;
    left = left;
    shown = shown_by rule process first fault end ends;
  }

  -- ---- one trial

  -- a conversation in which nothing was left out is one
  converses_so : (unasked : Unasked) (start : Dialogue P) {end : Dialogue P}
      → Spares known unasked start end → Converses known start end
  converses_so unasked start Spares.begins_so = Converses.begins
  converses_so unasked start (Spares.asks_so purpose command more wanted asked) =
      Converses.asks purpose command (converses_so unasked start more) asked
  converses_so unasked start (Spares.exchanges_so more exchanged) =
      Converses.exchanges (converses_so unasked start more) exchanged

  ends_so : (unasked : Unasked) (start : Dialogue P) (fault : Fault) (end : Dialogue P)
      → SparesToEnd known unasked start fault end → EndsWrong known start fault end
  ends_so unasked start fault end so = record {
    before = so.before;
    converses = converses_so unasked start so.spares;
    exchanged = so.exchanged;
  }

  trial_rule : (tries : Trial) (before : Standing P) {result : Option Wrong} {after : Standing P}
      → IsTrial known tries before result after → after.check.exam.game.rule ≡ before.check.exam.game.rule
  trial_rule tries before (IsTrial.unstarted reason never) = refl
  trial_rule tries before
      (IsTrial.right {engine = engine} process ending started_so spares asks left) =
      laws.stays (begun_with (started before.check).exam process before.notes) engine None
      (converses_so tries.unasked (begun_with (started before.check).exam process before.notes) spares)
  trial_rule tries before
      (IsTrial.wrong {engine = engine} process ending fault started_so ends asks left) =
      laws.stays (begun_with (started before.check).exam process before.notes) engine (Some fault)
      (ends_so tries.unasked (begun_with (started before.check).exam process before.notes) fault engine ends)

  trial_grounded : (rule : KoRule) (tries : Trial) (before : Standing P) {result : Option Wrong} {after : Standing P}
      → before.check.exam.game.rule ≡ rule → IsTrial known tries before result after
      → (tried : Wrong) → result ≡ Some tried
      → IsGrounded known rule
      (record { line = tries.line; before = before.asked; after = after.asked }) tried
  trial_grounded rule tries before same (IsTrial.unstarted reason never) tried is =
      absurd (cc is)
  trial_grounded rule tries before same
      (IsTrial.right process ending started_so spares asks left) tried is = absurd (cc is)
  trial_grounded rule tries before same
      (IsTrial.wrong {has = has} {engine = engine} process ending fault started_so ends asks left) tried is =
      let starts : Starts P = record { line = tries.line; before = before.asked; after = has } in
      subst (IsGrounded known rule starts) (one_there is)
      (subst (λ (r : KoRule). IsGrounded known r starts (wrong_with fault engine ending)) same
      (grounded_by before.check.exam.game.rule starts process before.notes fault engine ending
      (just_started tries.line before.asked has process started_so)
      (ends_so tries.unasked (begun_with (started before.check).exam process before.notes) fault engine ends) left))

  module _ (plan : Plan) (found : Wrong) (rule : KoRule) where
    tried_stays : (commands : List CheckCommand) (before : Moment P) {result : Option Wrong} {after : Moment P}
        → IsTried known plan found commands before result after → Stays before.state after.state
    tried_stays commands before (IsTried.by_trial held) = record {
      tally = refl;
      engine = refl;
      rule = trial_rule _ (standing_in before) held;
    }

    tried_grounded : (commands : List CheckCommand) (before : Moment P) {result : Option Wrong} {after : Moment P}
        → before.state.check.exam.game.rule ≡ rule → IsTried known plan found commands before result after
        → (tried : Wrong) → result ≡ Some tried
        → IsGrounded known rule (starts_of plan before.asked after.asked) tried
    tried_grounded commands before same (IsTried.by_trial held) =
        trial_grounded rule _ (standing_in before) same held

    one_comes : (commands : List CheckCommand) (before : Moment P) → before.state.check.exam.game.rule ≡ rule
        → {result : Option Wrong} {after : Moment P} → TriesOne known plan found commands before result after
        → Comes known plan found rule before result after
    one_comes commands before same (TriesOne.no_start never) = nothing_comes known plan found rule before
    one_comes commands before same (TriesOne.right may tried) =
        record { stays = tried_stays commands before tried; fair = λ other is. absurd (cc is) }
    one_comes commands before same (TriesOne.other may tried unlike) =
        record { stays = tried_stays commands before tried; fair = λ other is. absurd (cc is) }
    one_comes commands before same (TriesOne.alike {tried = one} {after = after} may tried like) = record {
      stays = tried_stays commands before tried;
      fair = λ other is.
          subst (IsFair known plan found rule before.asked after.asked) (one_there is)
          (record {
            grounded = tried_grounded commands before same tried one refl;
            alike = record { fault = like.fault; command = like.command };
          });
    }

    shortens_comes : (before : Moment P) → before.state.check.exam.game.rule ≡ rule → {hows : List Shortening}
        {after : Moment P} {games : LastGames} → Shortens known plan found hows before games after
        → Comes known plan found rule before games.ended after
    shortens_comes before same Shortens.none_left = nothing_comes known plan found rule before
    shortens_comes before same (Shortens.missed {mid = mid} {after = after} {games = games} tried more) =
        let one = one_comes _ before same tried in
        later known plan found rule before mid after games.ended one.stays
        (one_asks known plan found _ before tried)
        (shortens_comes mid (one.stays.rule ∙ same) more)
    shortens_comes before same (Shortens.shortened_so tried) = one_comes _ before same tried

    reduces_comes : (first : Reduction) (before : Moment P) → before.state.check.exam.game.rule ≡ rule
        → {now : Reduction} {best : Option Wrong} {after : Moment P}
        → Reduces known plan found first before now best after → Comes known plan found rule before best after
    reduces_comes first before same Reduces.begins = nothing_comes known plan found rule before
    reduces_comes first before same (Reduces.failed {mid = mid} {after = after} commands more next tries) =
        let earlier = reduces_comes first before same more in
        let one = one_comes commands mid (earlier.stays.rule ∙ same) tries in
        record {
          stays = both_stay before.state mid.state after.state earlier.stays one.stays;
          fair = λ tried is.
              fair_until known plan found rule before.asked mid.asked after.asked tried
              (one_asks known plan found commands mid tries) (earlier.fair tried is);
        }
    reduces_comes first before same
        (Reduces.succeeded {mid = mid} {after = after} {tried = one} commands more next tries) =
        let earlier = reduces_comes first before same more in
        later known plan found rule before mid after (Some one) earlier.stays
        (reduces_asks known plan found first before more)
        (one_comes commands mid (earlier.stays.rule ∙ same) tries)

  -- ---- what is shown

  -- what is fair either way
  of_either : (Fair : Wrong → Type 0) (best games : Option Wrong)
      → ((tried : Wrong) → best ≡ Some tried → Fair tried) → ((tried : Wrong) → games ≡ Some tried → Fair tried)
      → (tried : Wrong) → or_else best games ≡ Some tried → Fair tried
  of_either Fair None games one other tried is = other tried is
  of_either Fair (Some found) games one other tried is = one tried is

  -- a conversation was made shorter, and what ended it then has its ground
  pub shortened_comes : (plan : Plan) (found : Wrong) (rule : KoRule) (before : Moment P)
      {result : Option Wrong} {after : Moment P} → before.state.check.exam.game.rule ≡ rule
      → IsShortened known plan found before result after
      → Stays before.state after.state
      × ((tried : Wrong) → result ≡ Some tried → IsFair known plan found rule before.asked after.asked tried)
  shortened_comes plan found rule before same
      (IsShortened.both_ways {games = one} {best = other} {mid = mid} {after = after} shortens
      (IsReduced.reduced reduces over)) =
      let games = shortens_comes plan found rule before same shortens in
      let best = reduces_comes plan found rule _ mid (games.stays.rule ∙ same) reduces in (
        both_stay before.state mid.state after.state games.stays best.stays,
        of_either (IsFair known plan found rule before.asked after.asked) other one.ended
            (λ tried is.
            fair_since known plan found rule before.asked mid.asked after.asked tried
            (shortens_asks known plan found _ shortens) (best.fair tried is))
            (λ tried is.
            fair_until known plan found rule before.asked mid.asked after.asked tried
            (reduces_asks known plan found _ mid reduces) (games.fair tried is)),
      )
