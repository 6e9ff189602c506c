-- The sans-IO engine of a session: what holds of it between two calls, and how a policy and the table answer what it
-- asks its author for.
use Rattle.std.specs.Prelude.{◌≡◌, Bool, true, false, [], Option, Some, None, codes}
use Rattle.gtp_wire.specs.Lines.{lines}
use Rattle.gtp_session.specs.declared.events.Wait.TheVariants as wait
use Rattle.gtp_session.specs.declared.events.Event.{Event}
use Rattle.gtp_session.specs.declared.events.Event.TheVariants as event
use Rattle.go_base.specs.declared.choices.Choice.{Choice}
use Rattle.gtp_session.specs.Policy.{May}
use Rattle.gtp_session.specs.Steps.{StepsState, Chooses, AnswersOther, declined_text}

-- It waits for nothing, holds no whole line back, and its author has set nothing.
pub record IsUnset (s : StepsState) : Type 0 where
  pub waits_not : s.wait ≡ wait.Nothing
  pub unread : lines s.rest ≡ []
  pub name : s.name ≡ codes "stepgo"
  pub version : s.version ≡ codes "1.0"
  pub commands : s.commands ≡ []

-- it waits for what the event asks for
abbrev pub IsAskedBy : StepsState → Event → Type 0
IsAskedBy s event.More = Unit {0}
IsAskedBy s event.Reply = Unit {0}
IsAskedBy s (event.Asked colour) = s.wait ≡ wait.Choice colour
IsAskedBy s event.Other = s.wait ≡ wait.Answer
IsAskedBy s event.Ended = Unit {0}

-- Where a line ended, it is answered: a choice that is asked for is the policy's, and another command is declined.
-- `genmove` says whether a choice was made; there is none where no line ended.
abbrev pub Completes : {P : Type 0} → May P → StepsState → P → Event → StepsState → P → Option Bool → Type 0
Completes may s policy event.More new policy_now genmove = (new ≡ s) × (policy_now ≡ policy) × (genmove ≡ None)
Completes may s policy event.Reply new policy_now genmove =
    (new ≡ s) × (policy_now ≡ policy) × (genmove ≡ Some false)
Completes may s policy (event.Asked colour) new policy_now genmove =
    (choice : Choice) × may policy s.game colour choice policy_now × Chooses s choice new × (genmove ≡ Some true)
Completes may s policy event.Other new policy_now genmove =
    AnswersOther s false declined_text new × (policy_now ≡ policy) × (genmove ≡ Some false)
Completes may s policy event.Ended new policy_now genmove = (new ≡ s) × (policy_now ≡ policy) × (genmove ≡ None)
