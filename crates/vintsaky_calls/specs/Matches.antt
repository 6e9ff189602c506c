-- The calls of a match, which a referee may end.
use Rattle.std.specs.Prelude.{◌≡◌, ◌≢◌, ℕ, ℤ, pos, Bool, List, [], ◌∷◌, ◌++◌, ◌<◌, ◌≤◌, length}
use Rattle.std.specs.Prelude.{Option, Some, None, MatchOption, OnOk, OnErr, IfErr, if◌then◌else◌}
use Rattle.std.specs.List.{join_with_byte}
use Rattle.go_base.specs.Bytes.{space}
use Rattle.go_base.specs.Int.{written_int}
use Rattle.go_base.specs.Komi.{IsKomi}
use Rattle.go_base.specs.Size.{IsSize}
use Rattle.go_base.specs.declared.colours.Colour.{Colour}
use Rattle.go_board.specs.declared.faults.PlayFault.{PlayFault}
use Rattle.go_board.specs.declared.faults.PlayFault.TheVariants as play_fault
use Rattle.gtp_wire.specs.Commands.{words_of}
use Rattle.gtp_match.specs.declared.losses.Loss.{Loss}
use Rattle.gtp_match.specs.declared.losses.LossCause.{LossCause}
use Rattle.gtp_match.specs.declared.losses.LossCause.TheVariants as loss
use Rattle.gtp_match.specs.declared.losses.Owed.{Owed}
use Rattle.gtp_match.specs.declared.reports.Retake.{Retake}
use Rattle.gtp_match.specs.declared.setup.SetupFault.TheVariants as setup_fault
use Rattle.gtp_match.specs.declared.sides.EngineRun.{EngineRun}
use Rattle.gtp_match.specs.declared.unanswered.SentCommand.{SentCommand}
use Rattle.gtp_match.specs.declared.verdicts.Action.{Action}
use Rattle.gtp_match.specs.declared.verdicts.Action.TheVariants as action
use Rattle.gtp_match.specs.declared.verdicts.SideFault.{SideFault}
use Rattle.gtp_match.specs.declared.verdicts.SideFault.TheVariants as side_fault
use Rattle.gtp_match.specs.declared.verdicts.ForfeitCause.TheVariants as forfeit
use Rattle.gtp_match.specs.declared.verdicts.Verdict.{Verdict}
use Rattle.gtp_match.specs.declared.verdicts.Verdict.TheVariants as verdict
use Rattle.gtp_match.specs.Controller as controller
use Rattle.gtp_match.specs.Setup.{SetupRecord, IsSetup, RefusesSetup}
use Rattle.gtp_match.specs.Sides.{side_of, restarts}
use Rattle.gtp_match.specs.Unanswered.{has_genmove}
use Rattle.gtp_match.specs.referee.Refereed as referee
use Rattle.gtp_match.specs.referee.Refereed.{Refereed, GoesOn, next, owed}
use Rattle.gtp_match.specs.referee.ResultLine.{line_of}
use Rattle.gtp_match.specs.declared.referee.rulings.Ruled.{Ruled}
use Rattle.gtp_match.specs.declared.referee.rulings.Ruling.{Ruling}
use Rattle.gtp_match.specs.declared.referee.rulings.Ruling.TheVariants as ruling
use Rattle.gtp_match.specs.declared.referee.rulings.RulingFault.TheVariants as ruling_fault
use Rattle.vintsaky_calls.specs.Codes.{colour_code, NoColour, CallResult}
use Rattle.vintsaky_calls.specs.Texts.{Puts}
use Rattle.vintsaky_calls.specs.declared.causes.Cause.{Cause}
use Rattle.vintsaky_calls.specs.declared.causes.Cause.TheVariants as cause

-- a match of these values has not begun, and has no ruling
pub record BeginsMatch (setup : SetupRecord) (new : Refereed) : Type 0 where
  pub size : IsSize setup.size
  pub komi : IsKomi setup.komi
  pub is : IsSetup setup
  pub new_is : new ≡ referee.new setup

-- why it isn't begun: the first value that is out of its limits
abbrev pub RefusesMatch : SetupRecord → Cause → Type 0
RefusesMatch setup cause.BadSize = ¬ IsSize setup.size
RefusesMatch setup cause.BadKomi = IsSize setup.size × ¬ IsKomi setup.komi
RefusesMatch setup cause.BadHandicap =
    IsSize setup.size × IsKomi setup.komi × RefusesSetup setup setup_fault.Handicap
RefusesMatch setup cause.BadMaxMoves =
    IsSize setup.size × IsKomi setup.komi × RefusesSetup setup setup_fault.MaxMoves
RefusesMatch setup cause.BadMaxRestarts =
    IsSize setup.size × IsKomi setup.komi × RefusesSetup setup setup_fault.MaxRestarts
RefusesMatch setup _ = ⊥

-- A match is reset; or it stays as it was, for a cause.
pub record BeginCall (setup : SetupRecord) (old new : Refereed) (made : CallResult) : Type 0 where
  pub begun : OnOk made (BeginsMatch setup new)
  pub kept : OnErr made (new ≡ old)
  pub why : IfErr made (RefusesMatch setup)

-- the number of what is to be done next
abbrev pub action_code : Action → ℕ
action_code (action.Start side) = 1
action_code (action.Send side) = 2
action_code (action.Wait side) = 3
action_code (action.Done verdict) = 4

-- the number of the side with which it is done, or 0
abbrev pub action_side : Action → ℕ
action_side (action.Start side) = colour_code side
action_side (action.Send side) = colour_code side
action_side (action.Wait side) = colour_code side
action_side (action.Done verdict) = 0

-- the same where a ruling may have ended the match: nothing is to be done then
abbrev pub next_code : Option Action → ℕ
next_code None = 4
next_code (Some due) = action_code due

abbrev pub next_side : Option Action → ℕ
next_side None = 0
next_side (Some due) = action_side due

-- what is to be done next, and with which side
pub record NextCall (r : Refereed) (number side : ℕ) : Type 0 where
  pub action : number ≡ next_code (next r)
  pub side_is : side ≡ next_side (next r)

-- the number is that of a side, of which this holds
pub record IsSide (number : ℕ) (Holds : Colour → Type 0) : Type 0 where
  pub side : Colour
  pub number_is : number ≡ colour_code side
  pub holds : Holds side

-- a side was started, as was to be done
abbrev pub Starts : Refereed → ℕ → Refereed → Type 0
Starts old number new =
    IsSide number (λ side. (next old ≡ Some (action.Start side)) × (new ≡ referee.started old side))

-- why it wasn't: the number is no side, or something else is next
abbrev pub RefusesStart : Refereed → ℕ → Cause → Type 0
RefusesStart old number cause.BadColour = NoColour number
RefusesStart old number cause.NotNext = IsSide number (λ side. next old ≢ Some (action.Start side))
RefusesStart old number _ = ⊥

-- A side was started; or the match stays as it was, for a cause.
pub record StartedCall (side : ℕ) (old new : Refereed) (made : CallResult) : Type 0 where
  pub started : OnOk made (Starts old side new)
  pub kept : OnErr made (new ≡ old)
  pub why : IfErr made (RefusesStart old side)

-- the text of the next command for a side
abbrev pub IsNextText : Refereed → Colour → List ℕ → Type 0
IsNextText old side bytes =
    MatchOption (side_of old.controller.sides side).up ⊥
    (λ engine. bytes ≡ controller.next_text old.controller side engine)

-- the most bytes of a command's line
abbrev pub most_command : ℕ
most_command = 64

-- the next command is put into the caller's buffer, and counts as sent
pub record Sends (old : Refereed) (number : ℕ) (before after : List ℕ) (count : ℕ) (new : Refereed)
    : Type 0 where
  pub side : Colour
  pub number_is : number ≡ colour_code side
  pub due : next old ≡ Some (action.Send side)
  pub room : most_command < length before
  pub new_is : new ≡ referee.sent old side
  pub text : List ℕ
  pub is : IsNextText old side text
  pub puts : Puts text before after
  pub count_is : count ≡ length text

-- why it isn't: the number is no side, something else is next, or the buffer may be too short
abbrev pub RefusesSend : Refereed → ℕ → List ℕ → Cause → Type 0
RefusesSend old number before cause.BadColour = NoColour number
RefusesSend old number before cause.NotNext = IsSide number (λ side. next old ≢ Some (action.Send side))
RefusesSend old number before cause.NoRoom =
    IsSide number (λ side. next old ≡ Some (action.Send side)) × (length before ≤ most_command)
RefusesSend old number before _ = ⊥

-- The next command is written and counts as sent; or the match stays as it was, and nothing is written, for a cause.
pub record SendCall (side : ℕ) (old new : Refereed) (text_old text_new : List ℕ) (count_old count_new : ℕ)
    (made : CallResult) : Type 0 where
  pub sent : OnOk made (Sends old side text_old text_new count_new new)
  pub kept : OnErr made ((new ≡ old) × (text_new ≡ text_old) × (count_new ≡ count_old))
  pub why : IfErr made (RefusesSend old side text_old)

-- 1 where it holds, else 0
abbrev pub bool_code : Bool → ℕ
bool_code holds = if holds then 1 else 0

-- the number of a fault that bytes show
abbrev pub fault_code : SideFault → ℕ
fault_code side_fault.NoStatus = 1
fault_code side_fault.Overlong = 2
fault_code side_fault.WrongId = 3
fault_code side_fault.Unasked = 4

-- the number of a rule that a move breaks
abbrev pub rule_loss_code : PlayFault → ℕ
rule_loss_code play_fault.Full = 10
rule_loss_code play_fault.OffBoard = 11
rule_loss_code play_fault.Occupied = 12
rule_loss_code play_fault.Suicide = 13
rule_loss_code play_fault.Ko = 14

-- the number of why a side fails
abbrev pub loss_cause_code : LossCause → ℕ
loss_cause_code (loss.Shows fault) = fault_code fault
loss_cause_code loss.Unfit = 5
loss_cause_code loss.RefusesPlay = 6
loss_cause_code loss.KeepsMove = 7
loss_cause_code loss.NoMove = 8
loss_cause_code loss.NoVertex = 9
loss_cause_code (loss.Illegal fault) = rule_loss_code fault

-- the number of a loss, or 0
abbrev pub loss_code : Option Loss → ℕ
loss_code None = 0
loss_code (Some lost) = loss_cause_code lost.cause

-- what a side wrote is heard, and its loss is shown
pub record Hears (old : Refereed) (number : ℕ) (bytes : List ℕ) (shown : ℕ) (new : Refereed) : Type 0 where
  pub side : Colour
  pub lost : Option Loss
  pub retaken : Option Retake
  pub number_is : number ≡ colour_code side
  pub shown_is : shown ≡ loss_code lost
  pub heard : referee.Hears side old bytes lost retaken new

-- Bytes of a side are heard, and its loss is shown; or the number is no side, the match stays, and nothing is written.
pub record HearCall (side : ℕ) (bytes : List ℕ) (old new : Refereed) (loss_old loss_new : ℕ) (made : CallResult)
    : Type 0 where
  pub heard : OnOk made (Hears old side bytes loss_new new)
  pub kept : OnErr made ((new ≡ old) × (loss_new ≡ loss_old))
  pub why : IfErr made (λ why. (why ≡ cause.BadColour) × NoColour side)

-- which retake of its number of a move it is, or 0
abbrev pub retake_code : Option Retake → ℕ
retake_code None = 0
retake_code (Some retaken) = retaken.count

-- a command as it was sent, without its newline: its id, a space and its words
abbrev pub sent_text : SentCommand → List ℕ
sent_text entry = written_int entry.id ++ space ∷ join_with_byte space (words_of entry.command)

-- that of the oldest unanswered command, or an empty text
abbrev pub oldest_text : Option SentCommand → List ℕ
oldest_text None = []
oldest_text (Some entry) = sent_text entry

-- a side owes nothing
abbrev pub owes_nothing : Owed
owes_nothing = record { unanswered = 0; oldest = None; bytes = record { items = [] } }

-- what a side owed at its loss, or else at the retake, or else nothing
abbrev pub reported_owed : Option Loss → Option Retake → Owed
reported_owed (Some lost) retaken = lost.owed
reported_owed None (Some retaken) = retaken.owed
reported_owed None None = owes_nothing

-- what a caller gives to have written what a side owes: a number, and two buffers with the lengths of their texts
pub record OwedOut : Type 0 where
  pub unanswered : ℕ
  pub command : List ℕ
  pub command_count : ℕ
  pub wrote : List ℕ
  pub wrote_count : ℕ

abbrev pub owed_out : ℕ → List ℕ → ℕ → List ℕ → ℕ → OwedOut
owed_out unanswered command command_count wrote wrote_count =
    record {
      unanswered = unanswered;
      command = command;
      command_count = command_count;
      wrote = wrote;
      wrote_count = wrote_count;
    }

-- what a side owes is written there
pub record PutsOwed (owes : Owed) (old new : OwedOut) : Type 0 where
  pub unanswered_is : new.unanswered ≡ owes.unanswered
  pub command : Puts (oldest_text owes.oldest) old.command new.command
  pub command_count_is : new.command_count ≡ length (oldest_text owes.oldest)
  pub wrote : Puts owes.bytes.items old.wrote new.wrote
  pub wrote_count_is : new.wrote_count ≡ length owes.bytes.items

-- What is reported of bytes that are heard is written: the loss, the retake, and what the side owed at it.
pub record ReportsHeard (side : ℕ) (bytes : List ℕ) (old new : Refereed) (loss retake : ℕ) (out_old out_new : OwedOut)
    : Type 0 where
  pub lost : Option Loss
  pub retaken : Option Retake
  pub heard : IsSide side (λ s. referee.Hears s old bytes lost retaken new)
  pub loss_is : loss ≡ loss_code lost
  pub retake_is : retake ≡ retake_code retaken
  pub owed : PutsOwed (reported_owed lost retaken) out_old out_new

-- Bytes of a side are heard and reported; or the number is no side, the match stays, and nothing is written.
pub record HearReportingCall (side : ℕ) (bytes : List ℕ) (old new : Refereed) (loss_old loss_new : ℕ)
    (retake_old retake_new : ℕ) (out_old out_new : OwedOut) (made : CallResult) : Type 0 where
  pub heard : OnOk made (ReportsHeard side bytes old new loss_new retake_new out_old out_new)
  pub kept : OnErr made
      ((new ≡ old) × (loss_new ≡ loss_old) × (retake_new ≡ retake_old) × (out_new ≡ out_old))
  pub why : IfErr made (λ why. (why ≡ cause.BadColour) × NoColour side)

-- why what a side owes isn't written: the number is no side, or nothing is known of what that side owes
abbrev pub LacksOwed : Refereed → ℕ → Cause → Type 0
LacksOwed r number cause.BadColour = NoColour number
LacksOwed r number cause.Down = IsSide number (λ side. owed r side ≡ None)
LacksOwed r number _ = ⊥

-- the number is that of a side, and what that side owes is written
abbrev pub WritesOwed : Refereed → ℕ → OwedOut → OwedOut → Type 0
WritesOwed r number old new =
    IsSide number (λ side. MatchOption (owed r side) ⊥ (λ owes. PutsOwed owes old new))

-- What a side owes is written; or nothing is, for a cause.
pub record OwedCall (r : Refereed) (side : ℕ) (old new : OwedOut) (made : CallResult) : Type 0 where
  pub written : OnOk made (WritesOwed r side old new)
  pub kept : OnErr made (new ≡ old)
  pub why : IfErr made (LacksOwed r side)

-- the side is up, with these numbers
pub record HasStatus (r : Refereed) (number confirmed unanswered asked : ℕ) : Type 0 where
  pub side : Colour
  pub engine : EngineRun
  pub number_is : number ≡ colour_code side
  pub up : (side_of r.controller.sides side).up ≡ Some engine
  pub confirmed_is : confirmed ≡ engine.confirmed
  pub unanswered_is : unanswered ≡ length engine.unanswered
  pub asked_is : asked ≡ bool_code (has_genmove engine.unanswered)

-- why it has none: the number is no side, or the side is down
abbrev pub LacksStatus : Refereed → ℕ → Cause → Type 0
LacksStatus r number cause.BadColour = NoColour number
LacksStatus r number cause.Down = IsSide number (λ side. (side_of r.controller.sides side).up ≡ None)
LacksStatus r number _ = ⊥

-- How far a side is up is written; or nothing is, for a cause.
pub record StatusCall (r : Refereed) (side confirmed_old confirmed_new unanswered_old unanswered_new : ℕ)
    (asked_old asked_new : ℕ) (made : CallResult) : Type 0 where
  pub found : OnOk made (HasStatus r side confirmed_new unanswered_new asked_new)
  pub kept : OnErr made
      ((confirmed_new ≡ confirmed_old) × (unanswered_new ≡ unanswered_old) × (asked_new ≡ asked_old))
  pub why : IfErr made (LacksStatus r side)

-- A side is lost; or the number is no side, and the match stays as it was.
pub record LostCall (side : ℕ) (old new : Refereed) (made : CallResult) : Type 0 where
  pub lost : OnOk made (IsSide side (λ s. new ≡ referee.lost old s))
  pub kept : OnErr made (new ≡ old)
  pub why : IfErr made (λ why. (why ≡ cause.BadColour) × NoColour side)

-- Whether a side is in step is written; or the number is no side, and nothing is written.
pub record InStepCall (r : Refereed) (side old new : ℕ) (made : CallResult) : Type 0 where
  pub found : OnOk made (IsSide side (λ s. new ≡ bool_code (controller.in_step r.controller s)))
  pub kept : OnErr made (new ≡ old)
  pub why : IfErr made (λ why. (why ≡ cause.BadColour) × NoColour side)

-- How often a side was started again is written; or the number is no side, and nothing is written.
pub record RestartsCall (r : Refereed) (side old new : ℕ) (made : CallResult) : Type 0 where
  pub found : OnOk made (IsSide side (λ s. new ≡ restarts (side_of r.controller.sides s)))
  pub kept : OnErr made (new ≡ old)
  pub why : IfErr made (λ why. (why ≡ cause.BadColour) × NoColour side)

-- the number of a side, or 0
abbrev pub maybe_side_code : Option Colour → ℕ
maybe_side_code None = 0
maybe_side_code (Some side) = colour_code side

-- the number of how a match ended
abbrev pub ending_code : Verdict → ℕ
ending_code (verdict.Score half_points) = 1
ending_code (verdict.Resign side) = 2
ending_code verdict.Limit = 3
ending_code (verdict.Forfeit side forfeit.RefusedPlay) = 4
ending_code (verdict.Forfeit side forfeit.NoMove) = 5
ending_code (verdict.Forfeit side forfeit.NoVertex) = 6
ending_code (verdict.Forfeit side forfeit.IllegalMove) = 7
ending_code (verdict.Unfit side) = 8
ending_code (verdict.Abandoned side) = 9

-- the number of the side that this is said of, or 0
abbrev pub ending_side : Verdict → ℕ
ending_side (verdict.Score half_points) = 0
ending_side (verdict.Resign side) = colour_code side
ending_side verdict.Limit = 0
ending_side (verdict.Forfeit side cause) = colour_code side
ending_side (verdict.Unfit side) = colour_code side
ending_side (verdict.Abandoned side) = colour_code side

-- the score in half points, or 0
abbrev pub ending_score : Verdict → ℤ
ending_score (verdict.Score half_points) = half_points
ending_score (verdict.Resign side) = pos 0
ending_score verdict.Limit = pos 0
ending_score (verdict.Forfeit side cause) = pos 0
ending_score (verdict.Unfit side) = pos 0
ending_score (verdict.Abandoned side) = pos 0

-- the number of what a side lost by, where a ruling ended the match
abbrev pub ruling_code : Ruling → ℕ
ruling_code ruling.Time = 10
ruling_code (ruling.Reason kept) = 11

-- the match ended so, by a verdict of its own
pub record EndsByVerdict (r : Refereed) (ending side : ℕ) (half_points : ℤ) : Type 0 where
  pub given : Verdict
  pub over : r.controller.verdict ≡ Some given
  pub ending_is : ending ≡ ending_code given
  pub side_is : side ≡ ending_side given
  pub score_is : half_points ≡ ending_score given

-- the ruling ended it so
pub record EndsByRuling (given : Ruled) (ending side : ℕ) (half_points : ℤ) : Type 0 where
  pub ending_is : ending ≡ ruling_code given.ruling
  pub side_is : side ≡ colour_code given.loser
  pub score_is : half_points ≡ pos 0

abbrev pub EndsWhere : Refereed → ℕ → ℕ → ℤ → Option Ruled → Type 0
EndsWhere r ending side half_points None = EndsByVerdict r ending side half_points
EndsWhere r ending side half_points (Some given) = EndsByRuling given ending side half_points

-- the match is over, and ended so
abbrev pub EndsAs : Refereed → ℕ → ℕ → ℤ → Type 0
EndsAs r ending side half_points = EndsWhere r ending side half_points r.ruled

-- How a match ended is written; or it isn't over, and nothing is written.
pub record VerdictCall (r : Refereed) (ending_old ending_new side_old side_new : ℕ) (points_old points_new : ℤ)
    (made : CallResult) : Type 0 where
  pub found : OnOk made (EndsAs r ending_new side_new points_new)
  pub kept : OnErr made ((ending_new ≡ ending_old) × (side_new ≡ side_old) × (points_new ≡ points_old))
  pub why : IfErr made (λ why. (why ≡ cause.NotOver) × GoesOn r)

-- the line of a match that is over is put into the caller's buffer
pub record PutsResult (r : Refereed) (number : ℕ) (old new : List ℕ) (count : ℕ) : Type 0 where
  pub line : List ℕ
  pub over : line_of number r ≡ Some line
  pub puts : Puts line old new
  pub count_is : count ≡ length line

-- The line of a match is written; or the match isn't over, and nothing is written.
pub record ResultCall (r : Refereed) (number : ℕ) (old new : List ℕ) (count_old count_new : ℕ) (made : CallResult)
    : Type 0 where
  pub written : OnOk made (PutsResult r number old new count_new)
  pub kept : OnErr made ((new ≡ old) × (count_new ≡ count_old))
  pub why : IfErr made (λ why. (why ≡ cause.NotOver) × GoesOn r)

-- why a side doesn't lose by a ruling: the number is no side, or that of the match
abbrev pub RefusesRuling : Refereed → ℕ → List ℕ → Cause → Type 0
RefusesRuling old number reason cause.BadColour = NoColour number
RefusesRuling old number reason cause.IsOver =
    IsSide number (λ side. referee.RefusesRuling old reason ruling_fault.Over)
RefusesRuling old number reason cause.BadReason =
    IsSide number (λ side. referee.RefusesRuling old reason ruling_fault.BadReason)
RefusesRuling old number reason _ = ⊥

-- A side loses by a ruling; or the match stays as it was, for a cause.
pub record AdjudicateCall (side : ℕ) (reason : List ℕ) (old new : Refereed) (made : CallResult) : Type 0 where
  pub ruled : OnOk made (IsSide side (λ s. referee.Adjudicates old s reason new))
  pub kept : OnErr made (new ≡ old)
  pub why : IfErr made (RefusesRuling old side reason)
