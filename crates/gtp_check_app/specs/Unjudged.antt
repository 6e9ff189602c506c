-- Moves that aren't judged, since rule sets differ in whether they are legal. (Own.)
use Rattle.std.specs.Prelude.{◌≡◌, Bool, true, false, not, Option, None, Some, IfSome}
use Rattle.gtp_check_judge.specs.declared.judging.Kind.TheVariants.{Unlawful}
use Rattle.gtp_check_course.specs.declared.unasked.Unasked.{Unasked}
use Rattle.gtp_check_course.specs.Asking.{lesson_of}
use Rattle.gtp_check_course.specs.Course.{Course, Leaves, part_over, spares}
use Rattle.gtp_check_talk.specs.declared.fault.Fault.{Fault}
use Rattle.gtp_check_talk.specs.declared.fault.Fault.TheVariants.{Wrote}

-- a `genmove` was answered with a move that is illegal for a cause which isn't asked
abbrev pub is_unjudged : Unasked → Fault → Bool
is_unjudged unasked (Wrote (Unlawful cause)) = spares unasked cause
is_unjudged unasked _ = false

-- something is wrong that is judged
abbrev pub is_blamed : Unasked → Option Fault → Bool
is_blamed unasked None = false
is_blamed unasked (Some fault) = not (is_unjudged unasked fault)

-- Something in a part isn't judged. The part is left, if the course is there, and nothing counts as found in it.
pub record HasPassedOver (is_there : Bool) (old new : Course) : Type 0 where
  pub leaves : is_there ≡ true → Leaves old new
  pub next : is_there ≡ true → IfSome (lesson_of old) (λ lesson. new ≡ part_over lesson old)
  pub stays : is_there ≡ false → new ≡ old
