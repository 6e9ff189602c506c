-- What bytes of a side add to a report.
use Rattle.std.specs.Prelude.{◌≡◌, List, ℕ, ◌++◌, take, Option, option_map}
use Rattle.std.specs.Option.{option_or}
use Rattle.go_base.specs.declared.colours.Colour.{Colour}
use Rattle.gtp_wire.specs.declared.replies.Reply.{Reply}
use Rattle.gtp_wire.specs.Replies.{most_shown}
use Rattle.gtp_match.specs.declared.controller.Controller.{Controller}
use Rattle.gtp_match.specs.declared.losses.Loss.{Loss}
use Rattle.gtp_match.specs.declared.losses.LossCause.{LossCause}
use Rattle.gtp_match.specs.declared.losses.Owed.{Owed}
use Rattle.gtp_match.specs.declared.reply_table.Outcome.{Outcome}
use Rattle.gtp_match.specs.declared.reports.Report.{Report}
use Rattle.gtp_match.specs.declared.reports.Retake.{Retake}
use Rattle.gtp_match.specs.declared.sides.EngineRun.{EngineRun}
use Rattle.gtp_match.specs.declared.verdicts.Heard.{Heard}
use Rattle.gtp_match.specs.Losing.{HasLossCause, first_of, owed_of}
use Rattle.gtp_match.specs.Reporting.{HearsOnce}
use Rattle.gtp_match.specs.Retaking.{retake_by}

-- what a side owes that then wrote this text: of both texts the first bytes
abbrev pub owing_also : Owed → List ℕ → Owed
owing_also owed text = record owed { bytes = record { items = take most_shown (owed.bytes.items ++ text) } }

-- a retake of this count, at a side that owes this
abbrev pub retake_owing : Owed → ℕ → Retake
retake_owing owed count = record { count = count; owed = owed }

-- a loss of this cause, at a side that owes this
abbrev pub loss_owing : Owed → LossCause → Loss
loss_owing owed cause = record { cause = cause; owed = owed }

-- the count of the retake by a reply with this outcome, if there is one
abbrev pub IsRetakeCount : Controller → Colour → EngineRun → Outcome → Option ℕ → Type 0
IsRetakeCount c side engine made count =
    (text : List ℕ) → retake_by c side engine text made ≡ option_map (retake_owing (owed_of engine text)) count

-- A reply with this outcome adds what it shows to a report: the retake by it, and the loss, of a side that owed this.
pub record AddsReply (c : Controller) (side : Colour) (engine : EngineRun) (reply : Reply) (made : Outcome)
    (owed : Owed) (before after : Report) : Type 0 where
  pub cause : Option LossCause
  pub has : HasLossCause c side engine reply made cause
  pub loss : after.loss ≡ first_of before.loss (option_map (loss_owing owed) cause)
  pub retake : (text : List ℕ) → owed ≡ owed_of engine text
      → after.retake ≡ option_or before.retake (retake_by c side engine text made)

-- Bytes are heard up to one reply or fault, and what they show is added to a report: its first retake and loss stay.
pub record HearsAdding (c : Controller) (side : Colour) (bytes : List ℕ) (before : Report) (heard : Heard)
    (after : Report) (new : Controller) : Type 0 where
  pub retake : Option Retake
  pub loss : Option Loss
  pub hears : HearsOnce c side bytes heard.used heard.fault retake loss new
  pub retakes : after.retake ≡ option_or before.retake retake
  pub losses : after.loss ≡ first_of before.loss loss
