-- Bytes of a side that are heard in two chunks, and in one.
use Rattle.std.specs.Prelude.{◌≡◌, ℕ, List, ◌++◌, Option, None, Some, IsSome}
use Rattle.go_base.specs.declared.colours.Colour.{Colour}
use Rattle.gtp_match.specs.Calls.{Call, CallsExactly}
use Rattle.gtp_match.specs.Hearing.{HearsAllExactly}
use Rattle.gtp_match.specs.declared.controller.Controller.{Controller}
use Rattle.gtp_match.specs.declared.verdicts.SideFault.{SideFault}

-- the fault of the first chunk, or else that of the second
abbrev pub first_fault : Option SideFault → Option SideFault → Option SideFault
first_fault (Some shown) second = Some shown
first_fault None second = second

-- What two chunks return and leave, and both in one.
pub record AreAsOne (mid two one : Controller) (first second joined : Option SideFault) : Type 0 where
  -- the same first fault
  pub fault : joined ≡ first_fault first second
  -- the same match: setup, record, verdict, all that is kept of both sides, what is to be taken back, and the retakes
  pub same : one ≡ two
  -- after a fault of the first chunk the second is not heard
  pub unheard : IsSome first → (second ≡ None) × (two ≡ mid)
  -- and equal later calls leave the same again
  pub later : (calls : List Call) (x y : Controller) → CallsExactly one calls x → CallsExactly two calls y → x ≡ y

-- Two chunks of a side's bytes, one heard after the other, return and leave the same as both in one.
abbrev pub PiecesAreHeardAsOne : Type 0
PiecesAreHeardAsOne =
    (side : Colour) (c mid two one : Controller) (a b : List ℕ) (first second joined : Option SideFault)
    → HearsAllExactly side c a first mid → HearsAllExactly side mid b second two
    → HearsAllExactly side c (a ++ b) joined one → AreAsOne mid two one first second joined
