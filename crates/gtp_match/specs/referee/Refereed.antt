-- A match with a referee: a match of `gtp_match`, and a ruling or none. Once there is a ruling, no call changes it.
use Rattle.std.specs.Prelude.{◌≡◌, ◌≢◌, ◌⊎◌, ℕ, List, [], Option, Some, None, IfSome, IsSome, Result, OnOk, OnErr}
use Rattle.std.specs.Prelude.{IfErr}
use Rattle.go_base.specs.declared.colours.Colour.{Colour}
use Rattle.gtp_match.specs.Controller as controller
use Rattle.gtp_match.specs.Losing as losing
use Rattle.gtp_match.specs.Next as going
use Rattle.gtp_match.specs.Reporting.{HearsReport}
use Rattle.gtp_match.specs.Setup.{SetupRecord}
use Rattle.gtp_match.specs.declared.controller.Controller.{Controller}
use Rattle.gtp_match.specs.declared.losses.Loss.{Loss}
use Rattle.gtp_match.specs.declared.losses.Owed.{Owed}
use Rattle.gtp_match.specs.declared.reports.Retake.{Retake}
use Rattle.gtp_match.specs.declared.verdicts.Action.{Action}
use Rattle.gtp_match.specs.referee.Ruling.{IsReason, IsRuling, Rules}
use Rattle.gtp_match.specs.declared.referee.rulings.Ruled.{Ruled}
use Rattle.gtp_match.specs.declared.referee.rulings.Ruling.{Ruling}
use Rattle.gtp_match.specs.declared.referee.rulings.RulingFault.{RulingFault}
use Rattle.gtp_match.specs.declared.referee.rulings.RulingFault.TheVariants as fault

-- what a match of `gtp_match` is, and the ruling that ended it, if one did
pub record Refereed : Type 0 where
  pub controller : Controller
  pub ruled : Option Ruled

-- the same with another controller
abbrev pub with_controller : Refereed → Controller → Refereed
with_controller r c = record r { controller = c }

-- a match that has not begun, without a ruling
abbrev pub new : SetupRecord → Refereed
new setup = record { controller = controller.new setup; ruled = None }

-- what a ruling may be, and when it was given: before any verdict of the match's own
pub record IsGiven (c : Controller) (given : Ruled) : Type 0 where
  pub no_verdict : c.verdict ≡ None
  pub ruling : IsRuling given.ruling

-- what holds of every match with a referee
abbrev pub IsRefereed : Refereed → Type 0
IsRefereed r = IfSome r.ruled (IsGiven r.controller)

-- the match is over: by a verdict of its own, or by a ruling
abbrev pub IsOver : Refereed → Type 0
IsOver r = IsSome r.controller.verdict ⊎ IsSome r.ruled

-- the match isn't over
pub record GoesOn (r : Refereed) : Type 0 where
  pub no_verdict : r.controller.verdict ≡ None
  pub no_ruling : r.ruled ≡ None

-- ---- what comes next, and what a side owes

-- nothing comes next after a ruling
abbrev pub next_where : Controller → Option Ruled → Option Action
next_where c None = Some (going.next c)
next_where c (Some given) = None

abbrev pub next : Refereed → Option Action
next r = next_where r.controller r.ruled

-- nothing is known of what a side owes after a ruling
abbrev pub owed_where : Controller → Colour → Option Ruled → Option Owed
owed_where c side None = losing.owed c side
owed_where c side (Some given) = None

abbrev pub owed : Refereed → Colour → Option Owed
owed r side = owed_where r.controller side r.ruled

-- ---- calls

-- the side was started, as the match says
abbrev pub started : Refereed → Colour → Refereed
started r side = with_controller r (controller.started r.controller side)

-- the side was sent its next command, as the match says
abbrev pub sent : Refereed → Colour → Refereed
sent r side = with_controller r (controller.sent r.controller side)

abbrev pub lost_where : Refereed → Colour → Option Ruled → Refereed
lost_where r side None = with_controller r (controller.lost r.controller side)
lost_where r side (Some given) = r

-- the side is gone; after a ruling nothing changes by that
abbrev pub lost : Refereed → Colour → Refereed
lost r side = lost_where r side r.ruled

-- nothing is heard: the match stays as it was, and there is neither a loss nor a retake
pub record HearsNothing (r : Refereed) (loss : Option Loss) (retake : Option Retake) (new : Refereed) : Type 0 where
  pub no_loss : loss ≡ None
  pub no_retake : retake ≡ None
  pub same : new ≡ r

-- without a ruling the match hears all that a side wrote, and reports this of it
pub record HearsOn (side : Colour) (r : Refereed) (bytes : List ℕ) (loss : Option Loss) (retake : Option Retake)
    (new : Refereed) : Type 0 where
  pub in_match : HearsReport side r.controller bytes (record { retake = retake; loss = loss }) new.controller
  pub no_ruling : new.ruled ≡ None

abbrev pub HearsWhere : Colour → Refereed → List ℕ → Option Loss → Option Retake → Refereed → Option Ruled → Type 0
HearsWhere side r bytes loss retake new None = HearsOn side r bytes loss retake new
HearsWhere side r bytes loss retake new (Some given) = HearsNothing r loss retake new

-- bytes of a side are heard, unless there is a ruling
abbrev pub Hears : Colour → Refereed → List ℕ → Option Loss → Option Retake → Refereed → Type 0
Hears side r bytes loss retake new = HearsWhere side r bytes loss retake new r.ruled

-- ---- rulings

-- a match that isn't over ends: the side loses, for what the text says
pub record Adjudicates (r : Refereed) (side : Colour) (text : List ℕ) (new : Refereed) : Type 0 where
  pub goes_on : GoesOn r
  pub ruling : Ruling
  pub rules : Rules text ruling
  pub new_is : new ≡ record r { ruled = Some (record { loser = side; ruling = ruling }) }

-- why it doesn't: the match is over, or else the text is neither empty nor a reason
abbrev pub RefusesRuling : Refereed → List ℕ → RulingFault → Type 0
RefusesRuling r text fault.Over = IsOver r
RefusesRuling r text fault.BadReason = GoesOn r × (text ≢ []) × (¬ IsReason text)

-- A side loses by a ruling; or the match stays as it was, for a cause.
pub record AdjudicateCall (side : Colour) (text : List ℕ) (old new : Refereed) (made : Result (Unit {0}) RulingFault)
    : Type 0 where
  pub ruled : OnOk made (Adjudicates old side text new)
  pub kept : OnErr made (new ≡ old)
  pub why : IfErr made (RefusesRuling old text)
