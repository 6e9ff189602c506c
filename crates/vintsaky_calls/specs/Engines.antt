-- The calls of a sans-IO engine.
use Rattle.std.specs.Prelude.{◌≡◌, ◌≢◌, ℕ, ◌≤◌, Bool, true, false, List, length, Some, None, slice_get, nat_eq, not}
use Rattle.std.specs.Prelude.{OnOk, OnErr, IfErr}
use Rattle.go_base.specs.declared.choices.Choice.{Choice}
use Rattle.go_base.specs.declared.choices.Choice.TheVariants.{Resign, Play}
use Rattle.go_board.specs.declared.faults.PlayFault.TheVariants as play_fault
use Rattle.go_board.specs.declared.rules.KoRule.{KoRule}
use Rattle.gtp_wire.specs.declared.lines.Line.TheVariants as line
use Rattle.gtp_wire.specs.Words.{CommandWords}
use Rattle.gtp_session.specs.declared.events.Wait.{Wait}
use Rattle.gtp_session.specs.declared.events.Wait.TheVariants as wait
use Rattle.gtp_session.specs.declared.events.Event.{Event}
use Rattle.gtp_session.specs.declared.events.Event.TheVariants as event
use Rattle.gtp_session.specs.declared.events.ChoiceFault.{ChoiceFault}
use Rattle.gtp_session.specs.declared.events.ChoiceFault.TheVariants as choice_fault
use Rattle.gtp_session.specs.declared.events.AnswerFault.TheVariants as answer_fault
use Rattle.gtp_session.specs.declared.events.CommandFault.TheVariants as command_fault
use Rattle.gtp_session.specs.OwnCommands.{RefusesName}
use Rattle.gtp_session.specs.Steps.{StepsState, IsOpen, ReadsOn, event_of, fresh_steps, Chooses, RefusesChoice}
use Rattle.gtp_session.specs.Steps.{RefusesAnswer, AnswersOther, declined_text, IsTitle, SetsName, SetsVersion}
use Rattle.gtp_session.specs.Steps.{AddsCommand}
use Rattle.vintsaky_calls.specs.Codes.{colour_code, rule_code, vertex_code, IsVertex, NoRule, CallResult}
use Rattle.vintsaky_calls.specs.Texts.{Puts}
use Rattle.vintsaky_calls.specs.declared.causes.Cause.{Cause}
use Rattle.vintsaky_calls.specs.declared.causes.Cause.TheVariants as cause

-- the number of what came of a chunk: a colour whose choice is asked for has its own number
abbrev pub event_code : Event → ℕ
event_code event.More = 0
event_code (event.Asked colour) = colour_code colour
event_code event.Other = 3
event_code event.Reply = 4
event_code event.Ended = 5

-- the number of what is waited for
abbrev pub wait_code : Wait → ℕ
wait_code wait.Nothing = 0
wait_code (wait.Choice colour) = colour_code colour
wait_code wait.Answer = 3

-- 65,535 is a resignation, which no vertex has
abbrev pub choice_code : Choice → ℕ
choice_code Resign = 65535
choice_code (Play vertex) = vertex_code vertex

-- a resignation, a pass, or a point of the largest board
abbrev pub IsChoice : Choice → Type 0
IsChoice Resign = Unit {0}
IsChoice (Play vertex) = IsVertex vertex

-- the number represents this choice
pub record IsChoiceOf (n : ℕ) (choice : Choice) : Type 0 where
  pub code : n ≡ choice_code choice
  pub is : IsChoice choice

-- the number represents no choice
abbrev pub NoChoice : ℕ → Type 0
NoChoice n = (choice : Choice) → IsChoice choice → n ≢ choice_code choice

-- an engine with this ko rule that was given nothing
pub record BeginsEngine (rule : ℕ) (new : StepsState) : Type 0 where
  pub by : KoRule
  pub rule_is : rule ≡ rule_code by
  pub new_is : new ≡ fresh_steps by

-- An engine is reset; or the number is no ko rule, and it stays as it was.
pub record BeginCall (rule : ℕ) (old new : StepsState) (made : CallResult) : Type 0 where
  pub begun : OnOk made (BeginsEngine rule new)
  pub kept : OnErr made (new ≡ old)
  pub why : IfErr made (λ why. (why ≡ cause.BadRule) × NoRule rule)

-- what comes of a chunk, of which so many bytes are used
pub record Feeds (old : StepsState) (input : List ℕ) (used : ℕ) (came : Event) (new : StepsState) : Type 0 where
  pub within : used ≤ length input
  pub reads : IsOpen old → ReadsOn old input used came new
  pub waits : old.wait ≢ wait.Nothing → (used ≡ 0) × (came ≡ event_of old.wait) × (new ≡ old)
  pub over : old.ended ≡ true → (used ≡ 0) × (came ≡ event.Ended) × (new ≡ old)

-- a chunk is fed, and the number is that of what comes of it
pub record FeedCall (input : List ℕ) (old new : StepsState) (used number : ℕ) : Type 0 where
  pub came : Event
  pub number_is : number ≡ event_code came
  pub feeds : Feeds old input used came new

-- the choice of the number is made
pub record ChoosesBy (old : StepsState) (number : ℕ) (new : StepsState) : Type 0 where
  pub choice : Choice
  pub is : IsChoiceOf number choice
  pub made : Chooses old choice new

-- the number is that of a choice which is refused by this fault
pub record RefusesBy (s : StepsState) (number : ℕ) (fault : ChoiceFault) : Type 0 where
  pub choice : Choice
  pub is : IsChoiceOf number choice
  pub refused : RefusesChoice s choice fault

-- why it isn't made
abbrev pub RefusesNumber : StepsState → ℕ → Cause → Type 0
RefusesNumber s n cause.BadVertex = NoChoice n
RefusesNumber s n cause.NotAsked = RefusesBy s n choice_fault.NotAsked
RefusesNumber s n cause.Full = RefusesBy s n (choice_fault.Illegal play_fault.Full)
RefusesNumber s n cause.OffBoard = RefusesBy s n (choice_fault.Illegal play_fault.OffBoard)
RefusesNumber s n cause.Occupied = RefusesBy s n (choice_fault.Illegal play_fault.Occupied)
RefusesNumber s n cause.Suicide = RefusesBy s n (choice_fault.Illegal play_fault.Suicide)
RefusesNumber s n cause.Ko = RefusesBy s n (choice_fault.Illegal play_fault.Ko)
RefusesNumber s n _ = ⊥

-- The choice is made; or the engine stays as it was, for a cause.
pub record ChooseCall (number : ℕ) (old new : StepsState) (made : CallResult) : Type 0 where
  pub chosen : OnOk made (ChoosesBy old number new)
  pub kept : OnErr made (new ≡ old)
  pub why : IfErr made (RefusesNumber old number)

-- an answer is a success, where its number isn't 0
abbrev pub is_success : ℕ → Bool
is_success ok = not (nat_eq ok 0)

-- why an answer isn't given
abbrev pub RefusesText : StepsState → List ℕ → Cause → Type 0
RefusesText s text cause.NotAsked = RefusesAnswer s text answer_fault.NotAsked
RefusesText s text cause.BadText = RefusesAnswer s text answer_fault.BadText
RefusesText s text _ = ⊥

-- The answer is given; or the engine stays as it was, for a cause.
pub record AnswerCall (ok : ℕ) (text : List ℕ) (old new : StepsState) (made : CallResult) : Type 0 where
  pub answered : OnOk made (AnswersOther old (is_success ok) text new)
  pub kept : OnErr made (new ≡ old)
  pub why : IfErr made (RefusesText old text)

-- The line is answered as one of an unknown command; or none is waited for, and the engine stays as it was.
pub record DeclineCall (old new : StepsState) (made : CallResult) : Type 0 where
  pub declined : OnOk made (AnswersOther old false declined_text new)
  pub kept : OnErr made (new ≡ old)
  pub why : IfErr made (λ why. (why ≡ cause.NotAsked) × RefusesText old declined_text why)

-- The text is the engine's name from now on; or it can't be, and the engine stays as it was.
pub record SetNameCall (text : List ℕ) (old new : StepsState) (made : CallResult) : Type 0 where
  pub set : OnOk made (SetsName old text new)
  pub kept : OnErr made (new ≡ old)
  pub why : IfErr made (λ why. (why ≡ cause.BadText) × ¬ IsTitle text)

-- The text is the engine's version from now on; or it can't be, and the engine stays as it was.
pub record SetVersionCall (text : List ℕ) (old new : StepsState) (made : CallResult) : Type 0 where
  pub set : OnOk made (SetsVersion old text new)
  pub kept : OnErr made (new ≡ old)
  pub why : IfErr made (λ why. (why ≡ cause.BadText) × ¬ IsTitle text)

-- why a command isn't added
abbrev pub RefusesCommand : List (List ℕ) → List ℕ → Cause → Type 0
RefusesCommand commands name cause.BadLength = RefusesName commands name command_fault.BadLength
RefusesCommand commands name cause.BadByte = RefusesName commands name command_fault.BadByte
RefusesCommand commands name cause.OnlyDigits = RefusesName commands name command_fault.OnlyDigits
RefusesCommand commands name cause.InTable = RefusesName commands name command_fault.InTable
RefusesCommand commands name cause.AddedBefore = RefusesName commands name command_fault.AddedBefore
RefusesCommand commands name cause.TooMany = RefusesName commands name command_fault.TooMany
RefusesCommand commands name _ = ⊥

-- The name is that of one more custom command; or the engine stays as it was, for a cause.
pub record AddCommandCall (name : List ℕ) (old new : StepsState) (made : CallResult) : Type 0 where
  pub added : OnOk made (AddsCommand old name new)
  pub kept : OnErr made (new ≡ old)
  pub why : IfErr made (RefusesCommand old.commands name)

-- the line that is waited for
pub record WaitsOn (s : StepsState) (words : CommandWords) : Type 0 where
  pub waits : s.wait ≢ wait.Nothing
  pub line_is : s.line ≡ line.Command words

-- a word of the line that is waited for is put into the caller's buffer
pub record PutsWord (s : StepsState) (number : ℕ) (old new : List ℕ) (count : ℕ) : Type 0 where
  pub line : CommandWords
  pub word : List ℕ
  pub waits : WaitsOn s line
  pub is : slice_get line.words number ≡ Some word
  pub puts : Puts word old new
  pub count_is : count ≡ length word

-- why none is
abbrev pub LacksWord : StepsState → ℕ → Cause → Type 0
LacksWord s number cause.NotAsked = s.wait ≡ wait.Nothing
LacksWord s number cause.NoWord = (line : CommandWords) × WaitsOn s line × (slice_get line.words number ≡ None)
LacksWord s number _ = ⊥

-- A word of the line that is waited for is put into the buffer; or there is none, and nothing is written.
pub record WordCall (s : StepsState) (number : ℕ) (old new : List ℕ) (count_old count_new : ℕ) (made : CallResult)
    : Type 0 where
  pub found : OnOk made (PutsWord s number old new count_new)
  pub kept : OnErr made ((new ≡ old) × (count_new ≡ count_old))
  pub why : IfErr made (LacksWord s number)

-- the id of the line that is waited for
pub record HasId (s : StepsState) (id : ℕ) : Type 0 where
  pub line : CommandWords
  pub waits : WaitsOn s line
  pub is : line.id ≡ Some id

-- why there is none
abbrev pub LacksId : StepsState → Cause → Type 0
LacksId s cause.NotAsked = s.wait ≡ wait.Nothing
LacksId s cause.NoId = (line : CommandWords) × WaitsOn s line × (line.id ≡ None)
LacksId s _ = ⊥

-- The id of the line that is waited for is found; or there is none, and nothing is written.
pub record IdCall (s : StepsState) (old new : ℕ) (made : CallResult) : Type 0 where
  pub found : OnOk made (HasId s new)
  pub kept : OnErr made (new ≡ old)
  pub why : IfErr made (LacksId s)
