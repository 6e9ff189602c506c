-- What is heard exactly is heard, and of a piece that isn't empty a byte is used.
use Rattle.std.proofs.Common.{◌≡◌, ℕ, ◌+◌, ◌<◌, List, ◌++◌, length, take, Option, Some, None, Result, Ok, Err, sym, ◌∙◌}
use Rattle.std.proofs.Common.{ap, subst, arith, inl, inr, drop, eqb, true, false, []}
use Rattle.std.specs.Prelude.{◌⊎◌, IfSome}
use Rattle.std.proofs.lemmas.Bool.Decides.{nat_tests}
use Rattle.std.proofs.lemmas.List.{nil_from_length, take-append-le, take_all}
use Rattle.go_base.specs.declared.colours.Colour.{Colour}
use Rattle.gtp_wire.specs.declared.replies.Reply.{Reply}
use Rattle.gtp_wire.specs.declared.replies.ReplyFault.{ReplyFault}
use Rattle.gtp_wire.specs.Replies.{GivesNoAnswer, GivesAnswer, IsFirst}
use Rattle.gtp_match.specs.declared.sides.EngineRun.{EngineRun}
use Rattle.gtp_match.specs.declared.verdicts.SideFault.{SideFault}
use Rattle.gtp_match.specs.declared.verdicts.Verdict.{Verdict}
use Rattle.gtp_match.specs.declared.controller.Controller.{Controller}
use Rattle.gtp_match.specs.Sides.{side_of}
use Rattle.gtp_match.specs.Hearing.{ReadsAlike, MayKeep, KeepsAll, HearsUp, HearsWhere, HearsExactly, Hears, HearsAllBy}
use Rattle.gtp_match.specs.Hearing.{HearsAll, HearsAllExactly}
use Rattle.gtp_match.specs.Sound.{IsSoundEngine, IsSound}
use Rattle.gtp_match.proofs.soundness.Calls.{my_side}

alike : (a : List ℕ) → ReadsAlike a a
alike a later place answer = ((λ x. x), (λ x. x))

-- the bytes themselves may be kept
may_keep : (kept text : List ℕ) → kept ≡ text → MayKeep kept text
may_keep kept text e = (ap length e, subst (λ (t : List ℕ). ReadsAlike t text) (sym e) (alike text))

wider_up : (c : Controller) (s : Colour) (engine : EngineRun) (bytes : List ℕ) (used : ℕ)
    (fault : Option SideFault) (c2 : Controller)
    → HearsUp KeepsAll c s engine bytes used fault c2 → HearsUp MayKeep c s engine bytes used fault c2
wider_up c s engine bytes used fault c2 (HearsUp.replied first) = HearsUp.replied first
wider_up c s engine bytes used fault c2 (HearsUp.faulted first) = HearsUp.faulted first
wider_up c s engine bytes used fault c2 (HearsUp.nothing_yet {kept = text} quiet is) =
    HearsUp.nothing_yet quiet (may_keep text (engine.reader ++ bytes) is)

pub wider : (c : Controller) (s : Colour) (bytes : List ℕ) (used : ℕ) (fault : Option SideFault) (c2 : Controller)
    → HearsExactly c s bytes used fault c2 → Hears c s bytes used fault c2
wider c s bytes used fault c2 h = by_state c.verdict (side_of c.sides s).up h
  where
    by_state : (v : Option Verdict) (up : Option EngineRun) → HearsWhere KeepsAll c s bytes v up used fault c2
        → HearsWhere MayKeep c s bytes v up used fault c2
    by_state (Some v) up x = record { all = x.all; no_fault = x.no_fault; same = x.same }
    by_state None None x = record { all = x.all; no_fault = x.no_fault; same = x.same }
    by_state None (Some engine) x = wider_up c s engine bytes used fault c2 x

-- ---- a byte is used

take_front : (a b : List ℕ) → take (length a + 0) (a ++ b) ≡ a
take_front a b = take-append-le (length a + 0) a b (omega arith) ∙ take_all (length a + 0) a (omega arith)

first_is_new : (rest bytes : List ℕ) (used : ℕ) (answer : Result Reply ReplyFault) → GivesNoAnswer rest
    → IsFirst (rest ++ bytes) (length rest + used) answer → 0 < used
first_is_new rest bytes used answer quiet first = by_used (none_or_some used)
  where
    none_or_some : (n : ℕ) → (n ≡ 0) ⊎ (0 < n)
    none_or_some n = grind arith

    by_used : (used ≡ 0) ⊎ (0 < used) → 0 < used
    by_used (inr some) = some
    by_used (inl none) =
        let T : List ℕ → Type 0 = λ t. GivesAnswer t answer in
        let at_zero : IsFirst (rest ++ bytes) (length rest + 0) answer =
        subst (λ n. IsFirst (rest ++ bytes) (length rest + n) answer) none first in
        let is_given : GivesAnswer rest answer = subst T (take_front rest bytes) at_zero.is_given in
        absurd (quiet (length rest) answer (omega arith)
        (subst T (sym (take_all (length rest) rest (omega arith))) is_given))

up_uses : (c : Controller) (s : Colour) (engine : EngineRun) (bytes : List ℕ) (used : ℕ)
    (fault : Option SideFault) (c2 : Controller)
    → GivesNoAnswer engine.reader → 0 < length bytes → HearsUp KeepsAll c s engine bytes used fault c2 → 0 < used
up_uses c s engine bytes used fault c2 quiet some (HearsUp.replied {value = reply} first) =
    first_is_new engine.reader bytes used (Ok reply) quiet first
up_uses c s engine bytes used fault c2 quiet some (HearsUp.faulted {shown = shown} first) =
    first_is_new engine.reader bytes used (Err shown) quiet first
up_uses c s engine bytes used fault c2 quiet some (HearsUp.nothing_yet nothing is) = some

pub uses_one : (c : Controller) (s : Colour) (bytes : List ℕ) (used : ℕ) (fault : Option SideFault)
    (c2 : Controller) → IsSound c
    → HearsExactly c s bytes used fault c2 → 0 < length bytes → 0 < used
uses_one c s bytes used fault c2 h hears some = by_state c.verdict (side_of c.sides s).up (my_side c s h).engine hears
  where
    by_state : (v : Option Verdict) (up : Option EngineRun) → IfSome up (IsSoundEngine c s)
        → HearsWhere KeepsAll c s bytes v up used fault c2 → 0 < used
    by_state (Some v) up e x = omega (arith, x.all, some)
    by_state None None e x = omega (arith, x.all, some)
    by_state None (Some engine) e x = up_uses c s engine bytes used fault c2 e.quiet some x

-- ---- all bytes are heard

-- what all is heard exactly is heard
pub all_wider : (side : Colour) (c new : Controller) (bytes : List ℕ) (shown : Option SideFault)
    → HearsAllExactly side c bytes shown new → HearsAll side c bytes shown new
all_wider side c new bytes shown HearsAllBy.used_up = HearsAllBy.used_up
all_wider side c new bytes shown (HearsAllBy.faulty used some h) =
    HearsAllBy.faulty used some (wider c side bytes used shown new h)
all_wider side c new bytes shown (HearsAllBy.goes_on {mid = mid} used some h more) =
    HearsAllBy.goes_on used some (wider c side bytes used None mid h)
    (all_wider side mid new (drop used bytes) shown more)

pub none_left : (left : List ℕ) → eqb (length left) 0 ≡ true → left ≡ []
none_left left e = nil_from_length left (grind (arith, nat_tests))

pub some_left : (left : List ℕ) → eqb (length left) 0 ≡ false → 0 < length left
some_left left e = grind (arith, nat_tests)
