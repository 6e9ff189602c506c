-- A talk is a run of an engine in steps.
use Rattle.std.proofs.Common.{◌≡◌, ℕ, Bool, true, false, List, [], ◌++◌, take, refl, sym, ap, subst, ◌∙◌}
use Rattle.std.proofs.Common.{append-nil, arith}
use Rattle.std.specs.Prelude.{Ok, Err}
use Rattle.go_board.specs.declared.rules.KoRule.{KoRule}
use Rattle.go_board.specs.declared.rules.KoRule.TheVariants.{Simple, Positional}
use Rattle.gtp_session.specs.Steps.{StepsState, IsOpen, ReadsOn, fresh_steps, declined_text}
use Rattle.gtp_session.specs.StepsRuns.{Goes}
use Rattle.gtp_session.specs.declared.events.Event.{Event}
use Rattle.gtp_session.specs.declared.events.Event.TheVariants as event
use Rattle.gtp_session.specs.declared.events.Wait.{Wait}
use Rattle.gtp_session.specs.declared.events.Wait.TheVariants as wait
use Rattle.vintsaky_calls.specs.Codes.{CallResult, rule_code}
use Rattle.vintsaky_calls.specs.Engines.{BeginsEngine, Feeds, FeedCall, ChooseCall, AnswerCall, DeclineCall}
use Rattle.vintsaky_calls.specs.Engines.{SetNameCall, SetVersionCall, AddCommandCall, is_success}
use Rattle.vintsaky_calls.specs.Talks.{Talk, IsRunOf, TalksAreRuns, BegunAreAlike}

-- ---- a beginning

one_rule : (by other : KoRule) → rule_code by ≡ rule_code other → other ≡ by
one_rule Simple Simple e = refl
one_rule Simple Positional e = absurd (omega (arith, e))
one_rule Positional Simple e = absurd (omega (arith, e))
one_rule Positional Positional e = refl

begun_is : (by : KoRule) (b : StepsState) → BeginsEngine (rule_code by) b → b ≡ fresh_steps by
begun_is by b begins = begins.new_is ∙ ap fresh_steps (one_rule by begins.by begins.rule_is)

fresh_run : (by : KoRule) (b : StepsState) → b ≡ fresh_steps by → IsRunOf by [] b
fresh_run by b e =
    subst (λ (x : StepsState). IsRunOf by [] x) (sym e) (record { choices = []; given = []; goes = Goes.start })

-- ---- a call more

module _ {rule : KoRule} {text : List ℕ} {a b : StepsState} (run : IsRunOf rule text a) where
  stays : b ≡ a → IsRunOf rule text b
  stays e = subst (λ (x : StepsState). IsRunOf rule text x) (sym e) run

  uses_nothing : (input : List ℕ) (used : ℕ) → used ≡ 0 → b ≡ a → IsRunOf rule (text ++ take used input) b
  uses_nothing input used none e =
      subst (λ (t : List ℕ). IsRunOf rule t b)
      (sym (ap (λ (n : ℕ). text ++ take n input) none ∙ append-nil text)) (stays e)

  by_event : (came : Event) (input : List ℕ) (used : ℕ) → IsOpen a → ReadsOn a input used came b
      → IsRunOf rule (text ++ take used input) b
  by_event event.More input used is_open found =
      record { choices = run.choices; given = run.given; goes = Goes.more input used run.goes is_open found }
  by_event event.Reply input used is_open found =
      record { choices = run.choices; given = _; goes = Goes.replied input used run.goes is_open found }
  by_event (event.Asked colour) input used is_open found =
      record {
        choices = run.choices;
        given = run.given;
        goes = Goes.waits input used (event.Asked colour) (λ e. cc) run.goes is_open found;
      }
  by_event event.Other input used is_open found =
      record {
        choices = run.choices;
        given = run.given;
        goes = Goes.waits input used event.Other (λ e. cc) run.goes is_open found;
      }
  by_event event.Ended input used is_open found = absurd found

  by_wait : (w : Wait) (over : Bool) (came : Event) (input : List ℕ) (used : ℕ) → a.wait ≡ w → a.ended ≡ over
      → Feeds a input used came b → IsRunOf rule (text ++ take used input) b
  by_wait wait.Nothing false came input used w over feeds =
      let is_open : IsOpen a = record { goes_on = over; waits_not = w } in by_event came input used is_open (feeds.reads is_open)
  by_wait wait.Nothing true came input used w over feeds =
      let idle = feeds.over over in uses_nothing input used idle.0 idle.2
  by_wait (wait.Choice colour) over came input used w _ feeds =
      let idle = feeds.waits (λ n. let wrong : wait.Choice colour ≡ wait.Nothing = sym w ∙ n in cc) in
      uses_nothing input used idle.0 idle.2
  by_wait wait.Answer over came input used w _ feeds =
      let idle = feeds.waits (λ n. let wrong : wait.Answer ≡ wait.Nothing = sym w ∙ n in cc) in
      uses_nothing input used idle.0 idle.2

  is_fed : (input : List ℕ) (used number : ℕ) → FeedCall input a b used number
      → IsRunOf rule (text ++ take used input) b
  is_fed input used number did = by_wait a.wait a.ended did.came input used refl refl did.feeds

  is_chosen : (number : ℕ) (made : CallResult) → ChooseCall number a b made → IsRunOf rule text b
  is_chosen number (Ok done) did =
      record { choices = _; given = _; goes = Goes.chosen did.chosen.choice run.goes did.chosen.made }
  is_chosen number (Err why) did = stays did.kept

  is_answered : (ok : ℕ) (answer : List ℕ) (made : CallResult) → AnswerCall ok answer a b made → IsRunOf rule text b
  is_answered ok answer (Ok done) did =
      record { choices = run.choices; given = _; goes = Goes.answered (is_success ok) answer run.goes did.answered }
  is_answered ok answer (Err why) did = stays did.kept

  is_declined : (made : CallResult) → DeclineCall a b made → IsRunOf rule text b
  is_declined (Ok done) did =
      record { choices = run.choices; given = _; goes = Goes.answered false declined_text run.goes did.declined }
  is_declined (Err why) did = stays did.kept

  is_named : (title : List ℕ) (made : CallResult) → SetNameCall title a b made → IsRunOf rule text b
  is_named title (Ok done) did =
      record { choices = run.choices; given = run.given; goes = Goes.named title run.goes did.set }
  is_named title (Err why) did = stays did.kept

  is_versioned : (title : List ℕ) (made : CallResult) → SetVersionCall title a b made → IsRunOf rule text b
  is_versioned title (Ok done) did =
      record { choices = run.choices; given = run.given; goes = Goes.versioned title run.goes did.set }
  is_versioned title (Err why) did = stays did.kept

  is_added : (name : List ℕ) (made : CallResult) → AddCommandCall name a b made → IsRunOf rule text b
  is_added name (Ok done) did =
      record { choices = run.choices; given = run.given; goes = Goes.added name run.goes did.added }
  is_added name (Err why) did = stays did.kept

-- ---- laws

run_of : {rule : KoRule} {text : List ℕ} {s : StepsState} → Talk rule text s → IsRunOf rule text s
run_of Talk.placed = fresh_run Simple (fresh_steps Simple) refl
run_of (Talk.begun {b = b} by talk did) = fresh_run by b (begun_is by b did.begun)
run_of (Talk.not_begun number why talk did) = stays (run_of talk) did.kept
run_of (Talk.fed input used number talk did) = is_fed (run_of talk) input used number did
run_of (Talk.chosen number made talk did) = is_chosen (run_of talk) number made did
run_of (Talk.answered ok answer made talk did) = is_answered (run_of talk) ok answer made did
run_of (Talk.declined made talk did) = is_declined (run_of talk) made did
run_of (Talk.named title made talk did) = is_named (run_of talk) title made did
run_of (Talk.versioned title made talk did) = is_versioned (run_of talk) title made did
run_of (Talk.added name made talk did) = is_added (run_of talk) name made did

pub talks_are_runs : TalksAreRuns
talks_are_runs rule text s talk = run_of talk

pub begun_are_alike : BegunAreAlike
begun_are_alike number a b other new one two =
    two.begun.new_is
    ∙ ap fresh_steps (one_rule one.begun.by two.begun.by (sym one.begun.rule_is ∙ two.begun.rule_is))
    ∙ sym one.begun.new_is
