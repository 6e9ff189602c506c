-- What is written of a turn: a line for each `play` that is retaken in it, and one where a side fails. (Own.)
use Rattle.std.specs.Prelude.{◌≡◌, ◌≢◌, ◌↔◌, ◌≤◌, ◌+◌, ℕ, true, List, [], ◌++◌, length, All, Option, None, Some}
use Rattle.go_base.specs.declared.colours.Colour.{Colour}
use Rattle.gtp_match.specs.declared.controller.Controller.{Controller}
use Rattle.gtp_match.specs.declared.reports.Retake.{Retake}
use Rattle.gtp_match.specs.declared.verdicts.Action.{Action}
use Rattle.gtp_match.specs.declared.verdicts.Action.TheVariants.{Start, Send, Wait, Done}
use Rattle.gtp_match.specs.Losing.{GoesDown, LosesSide}
use Rattle.gtp_match.specs.Next.{next}
use Rattle.gtp_match.specs.Retakes.{total_of}
use Rattle.gtp_match.specs.Retaking.{IsOfLastMove}
use Rattle.gtp_match.specs.Sides.{side_of}
use Rattle.gtp_match.specs.Sound.{IsSound}
use Rattle.gtp_process.specs.declared.starter.Ending.{Ending}
use Rattle.gtp_process.specs.declared.starter.Process.{Ghosts}
use Rattle.twogtp_app.specs.declared.task.Commands.{Commands}
use Rattle.twogtp_app.specs.declared.why.SideTurn.{SideTurn}
use Rattle.twogtp_app.specs.declared.why.TurnLoss.{TurnLoss}
use Rattle.twogtp_app.specs.Turns.{GameState, IsTurn, engines_of, turn_lines}
use Rattle.twogtp_app.specs.Why.{loss_line, retake_line}

-- the side whose turn it is
abbrev pub turn_side : Action → Option Colour
turn_side (Start side) = Some side
turn_side (Send side) = Some side
turn_side (Wait side) = Some side
turn_side (Done verdict) = None

-- A turn loses a side. A side that was to be started is down after it; or a side that was up is down; or by a new
-- verdict a side forfeits or is unfit.
pub data TurnLosesSide (c new : Controller) : Type 0 where
  is_not_started : {side : Colour} → next c ≡ Start side → (side_of new.sides side).up ≡ None → TurnLosesSide c new
  is_lost : LosesSide c new → TurnLosesSide c new

-- The line of a retake, under this number of a game. The side that it names is the one whose turn it was. It refused
-- the last move, which the other side made, and the count is what the move's number has after that.
pub record IsRetakeLine (number : ℕ) (c new : Controller) (line : List ℕ) : Type 0 where
  pub side : Colour
  pub retake : Retake
  pub is : line ≡ retake_line number side retake
  pub of_turn : turn_side (next c) ≡ Some side
  pub of_last : IsOfLastMove c new side retake

-- the line of a loss, which names the side whose turn it was
pub record IsLossLine (number : ℕ) (c : Controller) (line : List ℕ) : Type 0 where
  pub side : Colour
  pub loss : TurnLoss
  pub ending : Ending
  pub is : line ≡ loss_line number side loss ending
  pub of_turn : turn_side (next c) ≡ Some side

-- what is written of a turn
pub record TurnIsReported (number : ℕ) (c new : Controller) (lines : List (List ℕ)) : Type 0 where
  -- the lines of a retake, and after them those of a loss: one at most of each
  pub retakes : List (List ℕ)
  pub losses : List (List ℕ)
  pub joined : lines ≡ retakes ++ losses
  pub one_retake : length retakes ≤ 1
  pub one_loss : length losses ≤ 1
  -- there is one of a retake exactly where the match counts one
  pub counted : IsSound c → total_of new.retakes ≡ total_of c.retakes + length retakes
  pub each_retake : IsSound c → All (IsRetakeLine number c new) retakes
  -- there is one of a loss exactly where the turn loses a side
  pub exact : (losses ≢ []) ↔ TurnLosesSide c new
  pub each_loss : All (IsLossLine number c) losses
  -- a side that goes down is the one that the line names
  pub named : (side : Colour) → GoesDown c new side → turn_side (next c) ≡ Some side

-- So it is of each turn, where turns are reported.
abbrev pub LossesHaveLines : {P : Type 0} → Ghosts P → Type 0
LossesHaveLines {P} known =
    (commands : Commands) (number : ℕ) (before after : GameState P) (turn : SideTurn)
    → IsTurn (engines_of commands known) before after turn
    → TurnIsReported number before.game after.game (turn_lines true number turn)
