-- Why a side fails by what it writes: it goes down, is unfit or forfeits. (Own.)
use Rattle.std.specs.Prelude.{◌≡◌, ◌⊎◌, ◌↔◌, ℕ, List, length, take, Option, None, Some, IfSome}
use Rattle.std.specs.Prelude.{IsSome, if◌then◌else◌}
use Rattle.go_base.specs.Colour.{other}
use Rattle.go_base.specs.declared.choices.Choice.{Choice}
use Rattle.go_base.specs.declared.choices.Choice.TheVariants as choice
use Rattle.go_base.specs.declared.colours.Colour.{Colour}
use Rattle.go_board.specs.declared.faults.PlayFault.{PlayFault}
use Rattle.go_board.specs.Game.{GameRecord, IsLegal}
use Rattle.go_board.specs.Refusals.{RefusesVertex}
use Rattle.gtp_wire.specs.declared.replies.Reply.{Reply}
use Rattle.gtp_wire.specs.Commands.{IsWritable}
use Rattle.gtp_wire.specs.Replies.{most_shown}
use Rattle.gtp_match.specs.declared.controller.Controller.{Controller}
use Rattle.gtp_match.specs.declared.losses.Loss.{Loss}
use Rattle.gtp_match.specs.declared.losses.LossCause.{LossCause}
use Rattle.gtp_match.specs.declared.losses.LossCause.TheVariants.{Shows, Unfit, RefusesPlay, KeepsMove, NoMove}
use Rattle.gtp_match.specs.declared.losses.LossCause.TheVariants.{NoVertex, Illegal}
use Rattle.gtp_match.specs.declared.losses.Owed.{Owed}
use Rattle.gtp_match.specs.declared.sides.EngineRun.{EngineRun}
use Rattle.gtp_match.specs.declared.reply_table.Outcome.{Outcome}
use Rattle.gtp_match.specs.declared.reply_table.Outcome.TheVariants as made
use Rattle.gtp_match.specs.declared.verdicts.ForfeitCause.{ForfeitCause}
use Rattle.gtp_match.specs.declared.verdicts.ForfeitCause.TheVariants as forfeit
use Rattle.gtp_match.specs.declared.verdicts.SideFault.{SideFault}
use Rattle.gtp_match.specs.declared.verdicts.Verdict.{Verdict}
use Rattle.gtp_match.specs.declared.verdicts.Verdict.TheVariants as verdict
use Rattle.gtp_wire.specs.ReplyWords.{choice_of_text}
use Rattle.gtp_match.specs.Sides.{side_of}
use Rattle.gtp_match.specs.Taking.{may_retake}
use Rattle.gtp_match.specs.Unanswered.{oldest}

-- ---- what a side owes

-- What an engine owes that wrote this text since its last whole reply: how many commands it hasn't answered, the oldest
-- of them, and the beginning of the text.
abbrev pub owed_of : EngineRun → List ℕ → Owed
owed_of engine text = record {
  unanswered = length engine.unanswered;
  oldest = oldest engine.unanswered;
  bytes = record { items = take most_shown text };
}

-- what a side owes in a match that goes on: none where it is down, or a verdict was given
abbrev pub owed_where : Option Verdict → Option EngineRun → Option Owed
owed_where None None = None
owed_where None (Some engine) = Some (owed_of engine engine.reader)
owed_where (Some verdict) up = None

abbrev pub owed : Controller → Colour → Option Owed
owed c side = owed_where c.verdict (side_of c.sides side).up

-- the oldest command can be written as a line
abbrev pub CanBeShown : Owed → Type 0
CanBeShown o = IfSome o.oldest (λ entry. IsWritable entry.command)

-- ---- the cause

-- The rule that a chosen vertex breaks: the first cause for which a play is refused, a full record aside.
abbrev pub BreaksRule : GameRecord → Colour → Option Choice → Option LossCause → Type 0
BreaksRule game side None cause = cause ≡ None
BreaksRule game side (Some choice.Resign) cause = cause ≡ None
BreaksRule game side (Some (choice.Play v)) cause =
    ((cause ≡ None) × IsLegal game side v)
    ⊎ ((fault : PlayFault) × (cause ≡ Some (Illegal fault)) × RefusesVertex game side v fault)

-- Why a side fails by a reply with this outcome, if one does: the side that wrote it, or the other one where it kept a
-- move that the other one refused. By a refused play it fails where that may not be retaken.
abbrev pub HasLossCause : Controller → Colour → EngineRun → Reply → Outcome → Option LossCause → Type 0
HasLossCause c side engine reply (made.Down fault) cause = cause ≡ Some (Shows fault)
HasLossCause c side engine reply made.Unfit cause = cause ≡ Some Unfit
HasLossCause c side engine reply (made.Forfeits forfeit.RefusedPlay) cause = cause ≡ Some RefusesPlay
HasLossCause c side engine reply (made.Forfeits forfeit.NoMove) cause = cause ≡ Some NoMove
HasLossCause c side engine reply (made.Forfeits forfeit.NoVertex) cause = cause ≡ Some NoVertex
HasLossCause c side engine reply (made.Forfeits forfeit.IllegalMove) cause =
    BreaksRule c.game side (choice_of_text reply.text.items) cause
HasLossCause c side engine reply made.Confirms cause = cause ≡ None
HasLossCause c side engine reply made.Resigns cause = cause ≡ None
HasLossCause c side engine reply (made.Moves v) cause = cause ≡ None
HasLossCause c side engine reply made.Refuses cause =
    cause ≡ (if may_retake c side engine then None else Some RefusesPlay)
HasLossCause c side engine reply made.TakesBack cause = cause ≡ None
HasLossCause c side engine reply made.Keeps cause = cause ≡ Some KeepsMove

-- a loss by this text, which is a reply or shows a fault
abbrev pub loss_of : EngineRun → List ℕ → LossCause → Loss
loss_of engine text cause = record { cause = cause; owed = owed_of engine text }

-- the first of two losses
abbrev pub first_of : Option Loss → Option Loss → Option Loss
first_of None later = later
first_of (Some loss) later = Some loss

-- ---- by what a side fails

-- the side was up, and is down
abbrev pub GoesDown : Controller → Controller → Colour → Type 0
GoesDown c new side = IsSome (side_of c.sides side).up × ((side_of new.sides side).up ≡ None)

-- A side fails: it goes down; or there was no verdict, and by the new one a side forfeits or is unfit.
pub data LosesSide (c new : Controller) : Type 0 where
  goes_down : (side : Colour) → GoesDown c new side → LosesSide c new
  forfeits : {loser : Colour} {cause : ForfeitCause} → c.verdict ≡ None
      → new.verdict ≡ Some (verdict.Forfeit loser cause)
      → LosesSide c new
  is_unfit : {loser : Colour} → c.verdict ≡ None → new.verdict ≡ Some (verdict.Unfit loser) → LosesSide c new

-- A loss's cause is the fault that was shown, or fits the new verdict: the side is unfit, or forfeits for this; or the
-- other one does, whose refused move this side kept.
abbrev pub CauseFits : Controller → Colour → Option SideFault → LossCause → Type 0
CauseFits new side fault (Shows shown) = fault ≡ Some shown
CauseFits new side fault Unfit = new.verdict ≡ Some (verdict.Unfit side)
CauseFits new side fault RefusesPlay = new.verdict ≡ Some (verdict.Forfeit side forfeit.RefusedPlay)
CauseFits new side fault KeepsMove = new.verdict ≡ Some (verdict.Forfeit (other side) forfeit.RefusedPlay)
CauseFits new side fault NoMove = new.verdict ≡ Some (verdict.Forfeit side forfeit.NoMove)
CauseFits new side fault NoVertex = new.verdict ≡ Some (verdict.Forfeit side forfeit.NoVertex)
CauseFits new side fault (Illegal rule) = new.verdict ≡ Some (verdict.Forfeit side forfeit.IllegalMove)

-- what a match reports of bytes of this side that were heard
pub record ReportsLoss (side : Colour) (c new : Controller) (fault : Option SideFault) (loss : Option Loss)
    : Type 0 where
  -- a loss is reported exactly where a side fails
  pub exact : IsSome loss ↔ LosesSide c new
  -- its cause is the fault that is shown, or fits the new verdict
  pub cause : IfSome loss (λ l. CauseFits new side fault l.cause)
  -- a fault is shown exactly where this side goes down
  pub down : IsSome fault ↔ GoesDown c new side
  -- the other side stays as it is, so that one never goes down
  pub other_stays : side_of new.sides (other side) ≡ side_of c.sides (other side)
