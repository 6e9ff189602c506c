-- Lists of calls on a match with a referee, and what holds after them.
use Rattle.std.specs.Prelude.{◌≡◌, ◌≢◌, ℕ, List, [], ◌∷◌, ◌++◌, Option, Some, None, Ok, Err}
use Rattle.go_base.specs.declared.colours.Colour.{Colour}
use Rattle.gtp_match.specs.Calls.{Call, starts, sends, hears_all, loses, CallsExactly}
use Rattle.gtp_match.specs.ResultLine.{result_text}
use Rattle.gtp_match.specs.declared.controller.Controller.{Controller}
use Rattle.gtp_match.specs.declared.losses.Loss.{Loss}
use Rattle.gtp_match.specs.declared.reports.Retake.{Retake}
use Rattle.gtp_match.specs.declared.verdicts.Action.TheVariants.{Start, Send}
use Rattle.gtp_match.specs.declared.verdicts.Verdict.{Verdict}
use Rattle.gtp_match.specs.referee.Refereed.{Refereed, next, started, sent, lost, owed, Hears, AdjudicateCall}
use Rattle.gtp_match.specs.referee.ResultLine.{ruled_line}
use Rattle.gtp_match.specs.referee.Ruling.{IsRuling}
use Rattle.gtp_match.specs.declared.referee.rulings.Ruled.{Ruled}
use Rattle.gtp_match.specs.declared.referee.rulings.RulingFault.{RulingFault}

-- a call that changes a match with a referee
pub data RefereedCall : Type 0 where
  starts_side : Colour → RefereedCall
  sends_side : Colour → RefereedCall
  hears_side : Colour → List ℕ → RefereedCall
  loses_side : Colour → RefereedCall
  adjudicates : Colour → List ℕ → RefereedCall

-- what one call does: a start and a command come only where they are what comes next
pub data Does : Refereed → RefereedCall → Refereed → Type 0 where
  start : {r : Refereed} {s : Colour} → next r ≡ Some (Start s) → Does r (starts_side s) (started r s)
  send : {r : Refereed} {s : Colour} → next r ≡ Some (Send s) → Does r (sends_side s) (sent r s)
  hear : {r new : Refereed} {s : Colour} {bytes : List ℕ} (loss : Option Loss) (retake : Option Retake)
      → Hears s r bytes loss retake new → Does r (hears_side s bytes) new
  lose : {r : Refereed} {s : Colour} → Does r (loses_side s) (lost r s)
  rule : {r new : Refereed} {s : Colour} {text : List ℕ} → AdjudicateCall s text r new (Ok tt)
      → Does r (adjudicates s text) new
  refuse : {r new : Refereed} {s : Colour} {text : List ℕ} (why : RulingFault) → AdjudicateCall s text r new (Err why)
      → Does r (adjudicates s text) new

-- these calls lead from one match to the other
pub data Leads : Refereed → List RefereedCall → Refereed → Type 0 where
  none : {r : Refereed} → Leads r [] r
  more : {r mid last : Refereed} {call : RefereedCall} {calls : List RefereedCall}
      → Does r call mid → Leads mid calls last → Leads r (call ∷ calls) last

-- the call as one on the match itself, where it is one
abbrev pub in_match : RefereedCall → List Call
in_match (starts_side s) = starts s ∷ []
in_match (sends_side s) = sends s ∷ []
in_match (hears_side s bytes) = hears_all s bytes ∷ []
in_match (loses_side s) = loses s ∷ []
in_match (adjudicates s text) = []

-- those of the calls that are calls on the match itself
abbrev pub all_in_match : List RefereedCall → List Call
all_in_match [] = []
all_in_match (call ∷ calls) = in_match call ++ all_in_match calls

-- ---- laws

-- After a ruling every call leaves the match and the ruling as they were; nothing is next, and no side owes anything.
pub record RulingsStay : Type 0 where
  pub same : (r last : Refereed) (calls : List RefereedCall) (given : Ruled) → r.ruled ≡ Some given
      → Leads r calls last → last ≡ r
  pub over : (r : Refereed) (given : Ruled) → r.ruled ≡ Some given → next r ≡ None
  pub owes_nothing : (r : Refereed) (side : Colour) (given : Ruled) → r.ruled ≡ Some given → owed r side ≡ None

-- calls of the match itself that lead from one controller to the other
pub record IsPlayed (c last : Controller) : Type 0 where
  pub calls : List Call
  pub lead : CallsExactly c calls last

pub record RefereedArePlayed : Type 0 where
  -- as long as there is no ruling, the match is what its own calls make of it
  pub without : (r last : Refereed) (calls : List RefereedCall) → last.ruled ≡ None → Leads r calls last
      → CallsExactly r.controller (all_in_match calls) last.controller
  -- and with a ruling or without, it is one that some calls of its own lead to
  pub always : (r last : Refereed) (calls : List RefereedCall) → Leads r calls last
      → IsPlayed r.controller last.controller

-- The line of a match that a ruling ended is the line of no match that ended by itself, whatever their numbers are.
abbrev pub RulingLinesDiffer : Type 0
RulingLinesDiffer =
    (number other : ℕ) (c ended : Controller) (given : Ruled) (verdict : Verdict) → IsRuling given.ruling
    → ruled_line number c given ≢ result_text other ended verdict
