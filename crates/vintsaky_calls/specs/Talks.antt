-- Talks: what a caller does with an engine that was placed, as long as it resets the engine only before the first
-- byte.
use Rattle.std.specs.Prelude.{◌≡◌, ℕ, List, [], ◌++◌, take, Ok, Err}
use Rattle.go_base.specs.declared.choices.Choice.{Choice}
use Rattle.go_board.specs.declared.rules.KoRule.{KoRule}
use Rattle.go_board.specs.declared.rules.KoRule.TheVariants.{Simple}
use Rattle.gtp_session.specs.Steps.{StepsState, fresh_steps}
use Rattle.gtp_session.specs.StepsRuns.{Exchange, Goes}
use Rattle.vintsaky_calls.specs.Codes.{CallResult, rule_code}
use Rattle.vintsaky_calls.specs.Engines.{BeginCall, FeedCall, ChooseCall, AnswerCall, DeclineCall, SetNameCall}
use Rattle.vintsaky_calls.specs.Engines.{SetVersionCall, AddCommandCall}
use Rattle.vintsaky_calls.specs.declared.causes.Cause.{Cause}

-- The engine has this ko rule, has used this text, and is this one now. It was placed, which gives it simple ko, and
-- may be reset as long as it has used no byte. All other calls come in any order, also those that are refused.
-- (What only reads an engine leaves it as it is.)
pub data Talk : KoRule → List ℕ → StepsState → Type 0 where
  placed : Talk Simple [] (fresh_steps Simple)
  begun : {rule : KoRule} {a b : StepsState}
      (by : KoRule) → Talk rule [] a → BeginCall (rule_code by) a b (Ok tt) → Talk by [] b
  not_begun : {rule : KoRule} {text : List ℕ} {a b : StepsState}
      (number : ℕ) (why : Cause) → Talk rule text a → BeginCall number a b (Err why) → Talk rule text b
  fed : {rule : KoRule} {text : List ℕ} {a b : StepsState}
      (input : List ℕ) (used number : ℕ) → Talk rule text a → FeedCall input a b used number
      → Talk rule (text ++ take used input) b
  chosen : {rule : KoRule} {text : List ℕ} {a b : StepsState}
      (number : ℕ) (made : CallResult) → Talk rule text a → ChooseCall number a b made → Talk rule text b
  answered : {rule : KoRule} {text : List ℕ} {a b : StepsState}
      (ok : ℕ) (answer : List ℕ) (made : CallResult) → Talk rule text a → AnswerCall ok answer a b made
      → Talk rule text b
  declined : {rule : KoRule} {text : List ℕ} {a b : StepsState}
      (made : CallResult) → Talk rule text a → DeclineCall a b made → Talk rule text b
  named : {rule : KoRule} {text : List ℕ} {a b : StepsState}
      (title : List ℕ) (made : CallResult) → Talk rule text a → SetNameCall title a b made → Talk rule text b
  versioned : {rule : KoRule} {text : List ℕ} {a b : StepsState}
      (title : List ℕ) (made : CallResult) → Talk rule text a → SetVersionCall title a b made → Talk rule text b
  added : {rule : KoRule} {text : List ℕ} {a b : StepsState}
      (name : List ℕ) (made : CallResult) → Talk rule text a → AddCommandCall name a b made → Talk rule text b

-- Some calls of a run lead there, from an engine with this ko rule that was given nothing; they use just this text.
pub record IsRunOf (rule : KoRule) (text : List ℕ) (s : StepsState) : Type 0 where
  pub choices : List Choice
  pub given : List Exchange
  pub goes : Goes (fresh_steps rule) text choices given s

-- ---- laws

-- A talk is a run of a sans-IO engine.
abbrev pub TalksAreRuns : Type 0
TalksAreRuns = (rule : KoRule) (text : List ℕ) (s : StepsState) → Talk rule text s → IsRunOf rule text s

-- Two engines that are reset by one number are the same, whatever they were.
abbrev pub BegunAreAlike : Type 0
BegunAreAlike =
    (number : ℕ) (a b other new : StepsState) → BeginCall number a b (Ok tt) → BeginCall number other new (Ok tt)
    → new ≡ b
