-- Kinds of engines: what the engines of one side of a world are. They are sessions, which ask a policy, or sans-IO
-- engines, whose author is asked, thinks as long as he likes, and supplies what he chose.
use Rattle.std.specs.Prelude.{◌≡◌, ◌≢◌, ◌⊎◌, ◌≤◌, ℕ, Bool, true, false, List, [], take, drop, length}
use Rattle.go_base.specs.declared.choices.Choice.{Choice}
use Rattle.go_board.specs.Game.{GameRecord}
use Rattle.go_board.specs.declared.rules.KoRule.{KoRule}
use Rattle.gtp_wire.specs.declared.lines.Line.{Line}
use Rattle.gtp_wire.specs.declared.lines.Line.TheVariants as line
use Rattle.gtp_session.specs.declared.events.Wait.{Wait}
use Rattle.gtp_session.specs.declared.events.Wait.TheVariants as wait
use Rattle.gtp_session.specs.declared.events.Event.{Event}
use Rattle.gtp_session.specs.declared.events.Event.TheVariants as event
use Rattle.gtp_session.specs.declared.events.StepsFed.{StepsFed}
use Rattle.gtp_session.specs.declared.events.NoTitle.{NoTitle}
use Rattle.gtp_session.specs.Engine.{Engine, Engages, fresh_under}
use Rattle.gtp_session.specs.Policy.{May}
use Rattle.gtp_session.specs.Steps.{StepsState, fresh_steps, IsOpen, ReadsOn, event_of, Chooses, RefusesChoice}
use Rattle.gtp_session.specs.Steps.{AnswersOther, RefusesAnswer, declined_text, IsTitle, SetsName, SetsVersion}
use Rattle.gtp_session.specs.Steps.{AddsCommand}
use Rattle.gtp_session.specs.OwnCommands.{RefusesName}
use Rattle.gtp_world.specs.Lane.{SidePolicies, Does}

-- ---- kinds

-- a call of an engine's author, beside `feed`
pub data Call : Type 0 where
  choose : Choice → Call
  answer : Bool → List ℕ → Call
  decline : Call
  set_name : List ℕ → Call
  set_version : List ℕ → Call
  add_command : List ℕ → Call

-- What the engines of a side are: how one may begin; what comes of one that is given the first `count` bytes on their
-- way to it, and of a call of its author's; the text that it was given and has not read as lines; the line that it read
-- last, with which it waits where it waits; its game; what it waits for; and the ko rule of them all.
pub record Kind (E : Type 0) : Type 1 where
  pub begins : E → Type 0
  pub reads : ℕ → Does E
  pub calls : Call → Does E
  pub rest : E → List ℕ
  pub line : E → Line
  pub game : E → GameRecord
  pub wait : E → Wait
  pub rule : KoRule

-- nothing comes of it, and nothing is written
abbrev pub NothingComes : {E : Type 0} → E → E → List ℕ → Type 0
NothingComes old new written = (new ≡ old) × (written ≡ [])

-- ---- sessions

-- a session under the side's ko rule that was given nothing, with a policy that may be made
pub record IsFresh {P : Type 0} (policies : SidePolicies P) (engine : Engine P) : Type 0 where
  pub policy : P
  pub made : policies.made policy
  pub engine_is : engine ≡ fresh_under policies.rule policy

-- a session reads the first `count` bytes, or all where there are fewer, and asks its policy at once
pub record Reads {P : Type 0} (may : May P) (count : ℕ) (old : Engine P) (coming : List ℕ) (new : Engine P)
    (left written : List ℕ) : Type 0 where
  pub engages : Engages may old (take count coming) new written
  pub left_is : left ≡ drop count coming

-- Sessions with these policies. They have no author, and wait for nothing, so `line` may be any.
abbrev pub sessions : {P : Type 0} → SidePolicies P → Kind (Engine P)
sessions {P} policies = record {
  begins = IsFresh policies;
  reads = Reads policies.may;
  calls = λ call old coming new left written. NothingComes old new written × (left ≡ coming);
  rest = λ engine. engine.rest;
  line = λ engine. line.TooLong;
  game = λ engine. engine.game;
  wait = λ engine. wait.Nothing;
  rule = policies.rule;
}

-- ---- the calls of a sans-IO engine, by their contracts

-- `feed`: one that is open reads on, up to the end of the first line; one that waits, or that has ended, uses nothing
-- and stays as it was
pub record Feeds (old : StepsState) (input : List ℕ) (fed : StepsFed) (new : StepsState) : Type 0 where
  pub within : fed.used ≤ length input
  pub reads : IsOpen old → ReadsOn old input fed.used fed.event new
  pub waits : old.wait ≢ wait.Nothing → (fed ≡ record { used = 0; event = event_of old.wait }) × (new ≡ old)
  pub over : old.ended ≡ true → (fed ≡ record { used = 0; event = event.Ended }) × (new ≡ old)

-- what its author writes after `feed`: the reply where one is reported, and nothing else
abbrev pub written_at : Event → StepsState → List ℕ
written_at event.Reply s = s.reply
written_at event.More s = []
written_at (event.Asked colour) s = []
written_at event.Other s = []
written_at event.Ended s = []

-- Its author reads the first `count` bytes that are on their way, or all where there are fewer, and feeds them. What
-- isn't used he keeps for the next call: here it stays on its way, so that it is lost where he crashes.
pub record FeedsFront (count : ℕ) (old : StepsState) (coming : List ℕ) (new : StepsState) (left written : List ℕ)
    : Type 0 where
  pub fed : StepsFed
  pub feeds : Feeds old (take count coming) fed new
  pub left_is : left ≡ drop fed.used coming
  pub written_is : written ≡ written_at fed.event new

-- A call does what it is for; or it is refused, by a fault that it has, and nothing comes of it.
abbrev pub OrRefused : {F : Type 0} → Type 0 → (F → Type 0) → StepsState → StepsState → List ℕ → Type 0
OrRefused {F} Done Refuses old new written = Done ⊎ ((fault : F) × Refuses fault × NothingComes old new written)

-- the fault of a text that is no title
abbrev pub RefusesTitle : List ℕ → NoTitle → Type 0
RefusesTitle text fault = ¬ IsTitle text

-- What comes of a call. A choice that is made, and an answer that is given, have their reply written. What is set or
-- added is used from then on, and nothing is written. What is refused leaves the engine as it was, and nothing is
-- written.
abbrev pub Calls : StepsState → Call → StepsState → List ℕ → Type 0
Calls old (Call.choose choice) new written =
    OrRefused (Chooses old choice new × (written ≡ new.reply)) (RefusesChoice old choice) old new written
Calls old (Call.answer ok text) new written =
    OrRefused (AnswersOther old ok text new × (written ≡ new.reply)) (RefusesAnswer old text) old new written
Calls old Call.decline new written =
    OrRefused (AnswersOther old false declined_text new × (written ≡ new.reply)) (RefusesAnswer old declined_text)
    old new written
Calls old (Call.set_name text) new written =
    OrRefused (SetsName old text new × (written ≡ [])) (RefusesTitle text) old new written
Calls old (Call.set_version text) new written =
    OrRefused (SetsVersion old text new × (written ≡ [])) (RefusesTitle text) old new written
Calls old (Call.add_command name) new written =
    OrRefused (AddsCommand old name new × (written ≡ [])) (RefusesName old.commands name) old new written

-- a call takes nothing off what is on its way
abbrev pub CallsOnly : Call → Does StepsState
CallsOnly call old coming new left written = Calls old call new written × (left ≡ coming)

-- sans-IO engines with this ko rule, each of which was given nothing at its start
abbrev pub in_steps : KoRule → Kind StepsState
in_steps rule = record {
  begins = λ s. s ≡ fresh_steps rule;
  reads = FeedsFront;
  calls = CallsOnly;
  rest = λ s. s.rest;
  line = λ s. s.line;
  game = λ s. s.game;
  wait = λ s. s.wait;
  rule = rule;
}
