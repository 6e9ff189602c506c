-- The ways in which bytes of a side are heard, and its engine afterwards.
use Rattle.std.proofs.Common.{◌≡◌, ℕ, ◌+◌, List, ◌++◌, length, Option, Some, None, Err, refl}
use Rattle.go_base.specs.declared.colours.Colour.{Colour}
use Rattle.go_base.specs.declared.colours.Colour.TheVariants.{Black, White}
use Rattle.gtp_wire.specs.Replies.{IsFirst, GivesNoAnswer}
use Rattle.gtp_wire.specs.declared.replies.Reply.{Reply}
use Rattle.gtp_wire.specs.declared.replies.ReplyFault.{ReplyFault}
use Rattle.gtp_match.specs.Controller.{with_side_up, downed}
use Rattle.gtp_match.specs.Hearing.{side_fault, MayKeep, HearsUp, HearsWhere, Hears}
use Rattle.gtp_match.specs.ReplyTable.{outcome, after_outcome, fault_of}
use Rattle.gtp_match.specs.Replying.{EndsReply}
use Rattle.gtp_match.specs.Sides.{side_of, with_engine_of, heard_reply}
use Rattle.gtp_match.specs.Unanswered.{oldest}
use Rattle.gtp_match.specs.declared.controller.Controller.{Controller}
use Rattle.gtp_match.specs.declared.sides.EngineRun.{EngineRun}
use Rattle.gtp_match.specs.declared.sides.Sides.{Sides}
use Rattle.gtp_match.specs.declared.verdicts.SideFault.{SideFault}
use Rattle.gtp_match.specs.declared.verdicts.Verdict.{Verdict}

-- ---- the ways in which bytes are heard

pub data Heard (c : Controller) (s : Colour) (bytes : List ℕ) (used : ℕ) (fault : Option SideFault) (new : Controller)
    : Type 0 where
  replied : (engine : EngineRun) (reply : Reply) → c.verdict ≡ None → (side_of c.sides s).up ≡ Some engine
      → EndsReply engine bytes used reply
      → fault ≡ fault_of (outcome c.game s (oldest engine.unanswered) reply)
      → new ≡ after_outcome c s (heard_reply engine) (outcome c.game s (oldest engine.unanswered) reply)
      → Heard c s bytes used fault new
  faulted : (engine : EngineRun) (shown : ReplyFault) → c.verdict ≡ None → (side_of c.sides s).up ≡ Some engine
      → IsFirst (engine.reader ++ bytes) (length engine.reader + used) (Err shown)
      → fault ≡ Some (side_fault shown) → new ≡ downed c s → Heard c s bytes used fault new
  quiet : (engine : EngineRun) (kept : List ℕ) → c.verdict ≡ None → (side_of c.sides s).up ≡ Some engine
      → GivesNoAnswer (engine.reader ++ bytes) → fault ≡ None
      → new ≡ with_side_up c s (record engine { reader = kept }) → Heard c s bytes used fault new
  down : (side_of c.sides s).up ≡ None → fault ≡ None → new ≡ c → Heard c s bytes used fault new
  over : (v : Verdict) → c.verdict ≡ Some v → fault ≡ None → new ≡ c → Heard c s bytes used fault new

heard_up : (c : Controller) (s : Colour) (engine : EngineRun) (bytes : List ℕ) (used : ℕ) (fault : Option SideFault)
    (new : Controller) → c.verdict ≡ None → (side_of c.sides s).up ≡ Some engine
    → HearsUp MayKeep c s engine bytes used fault new → Heard c s bytes used fault new
heard_up c s engine bytes used fault new none up (HearsUp.replied {value = reply} first) =
    Heard.replied engine reply none up first refl refl
heard_up c s engine bytes used fault new none up (HearsUp.faulted {shown = shown} first) =
    Heard.faulted engine shown none up first refl refl
heard_up c s engine bytes used fault new none up (HearsUp.nothing_yet {kept = kept} nothing is) =
    Heard.quiet engine kept none up nothing refl refl

pub heard : (c : Controller) (s : Colour) (bytes : List ℕ) (used : ℕ) (fault : Option SideFault) (new : Controller)
    → Hears c s bytes used fault new → Heard c s bytes used fault new
heard c s bytes used fault new hears = by_verdict c.verdict refl hears
  where
    by_up : (up : Option EngineRun) → (side_of c.sides s).up ≡ up → c.verdict ≡ None
        → HearsWhere MayKeep c s bytes None up used fault new → Heard c s bytes used fault new
    by_up None up none h = Heard.down up h.no_fault h.same
    by_up (Some engine) up none h = heard_up c s engine bytes used fault new none up h

    by_verdict : (v : Option Verdict) → c.verdict ≡ v
        → HearsWhere MayKeep c s bytes v (side_of c.sides s).up used fault new → Heard c s bytes used fault new
    by_verdict None e h = by_up (side_of c.sides s).up refl e h
    by_verdict (Some v) e h = Heard.over v e h.no_fault h.same

-- ---- the side's engine afterwards

pub up_there : (sides : Sides) (s : Colour) (engine : EngineRun)
    → (side_of (with_engine_of s engine sides) s).up ≡ Some engine
up_there sides Black engine = refl
up_there sides White engine = refl

pub down_there : (c : Controller) (s : Colour) → (side_of (downed c s).sides s).up ≡ None
down_there c Black = refl
down_there c White = refl

abbrev pub up_in : Colour → Controller → Option EngineRun
up_in s c = (side_of c.sides s).up
