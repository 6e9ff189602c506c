-- What is heard and reported is heard exactly.
use Rattle.std.proofs.Common.{◌≡◌, ℕ, List, length, drop, Option, Some, None, refl, sym, subst}
use Rattle.go_base.specs.declared.colours.Colour.{Colour}
use Rattle.gtp_match.specs.Hearing.{KeepsAll, HearsUp, HearsWhere, HearsExactly, HearsAllBy, HearsAllExactly}
use Rattle.gtp_match.specs.Reporting.{HearsOnce, HearsChunk}
use Rattle.gtp_match.specs.Sides.{side_of}
use Rattle.gtp_match.specs.declared.controller.Controller.{Controller}
use Rattle.gtp_match.specs.declared.losses.Loss.{Loss}
use Rattle.gtp_match.specs.declared.reports.Retake.{Retake}
use Rattle.gtp_match.specs.declared.sides.EngineRun.{EngineRun}
use Rattle.gtp_match.specs.declared.verdicts.SideFault.{SideFault}
use Rattle.gtp_match.specs.declared.verdicts.Verdict.{Verdict}
use Rattle.gtp_match.proofs.hearing.Reading.{hears_up}

-- while a side is down, and after a verdict, all bytes are used and nothing changes
down_exact : (c : Controller) (side : Colour) (bytes : List ℕ) → (side_of c.sides side).up ≡ None
    → HearsExactly c side bytes (length bytes) None c
down_exact c side bytes down = by_verdict c.verdict
  where
    by_verdict : (v : Option Verdict)
        → HearsWhere KeepsAll c side bytes v (side_of c.sides side).up (length bytes) None c
    by_verdict (Some v) = record { all = refl; no_fault = refl; same = refl }
    by_verdict None =
        subst (λ (u : Option EngineRun). HearsWhere KeepsAll c side bytes None u (length bytes) None c) (sym down)
        (record { all = refl; no_fault = refl; same = refl })

over_exact : (c : Controller) (side : Colour) (bytes : List ℕ) (verdict : Verdict) → c.verdict ≡ Some verdict
    → HearsExactly c side bytes (length bytes) None c
over_exact c side bytes verdict over =
    subst (λ (v : Option Verdict). HearsWhere KeepsAll c side bytes v (side_of c.sides side).up (length bytes) None c)
    (sym over) (record { all = refl; no_fault = refl; same = refl })

pub once_exact : (c new : Controller) (side : Colour) (bytes : List ℕ) (used : ℕ) (fault : Option SideFault)
    (retake : Option Retake) (loss : Option Loss) → HearsOnce c side bytes used fault retake loss new
    → HearsExactly c side bytes used fault new
once_exact c new side bytes used fault retake loss (HearsOnce.replied engine reply cause none up first has) =
    hears_up c side engine bytes used _ _ none up (HearsUp.replied first)
once_exact c new side bytes used fault retake loss (HearsOnce.faulted engine shown none up first) =
    hears_up c side engine bytes used _ _ none up (HearsUp.faulted first)
once_exact c new side bytes used fault retake loss (HearsOnce.nothing_yet engine none up nothing) =
    hears_up c side engine bytes _ None _ none up (HearsUp.nothing_yet nothing refl)
once_exact c new side bytes used fault retake loss (HearsOnce.while_down none down) = down_exact c side bytes down
once_exact c new side bytes used fault retake loss (HearsOnce.after_verdict verdict over) =
    over_exact c side bytes verdict over

pub chunk_exact : (side : Colour) (c new : Controller) (bytes : List ℕ) (fault : Option SideFault)
    (retakes : List Retake) (loss : Option Loss) → HearsChunk side c bytes fault retakes loss new
    → HearsAllExactly side c bytes fault new
chunk_exact side c new bytes fault retakes loss HearsChunk.used_up = HearsAllBy.used_up
chunk_exact side c new bytes fault retakes loss (HearsChunk.faulty used retake some h) =
    HearsAllBy.faulty used some (once_exact c new side bytes used _ retake loss h)
chunk_exact side c new bytes fault retakes loss
    (HearsChunk.goes_on {mid = mid} {retakes = more} {later = later} used retake first some h rest) =
    HearsAllBy.goes_on used some (once_exact c mid side bytes used None retake first h)
    (chunk_exact side mid new (drop used bytes) fault more later rest)
