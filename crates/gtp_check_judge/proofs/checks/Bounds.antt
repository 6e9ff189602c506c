-- Every check is bounded.
use Rattle.std.proofs.Common.{◌≡◌, ℕ, ◌+◌, ◌≤◌, true, false, refl, ap, arith}
use Rattle.go_board.specs.declared.rules.KoRule.{KoRule}
use Rattle.gtp_check_judge.specs.Check.{Check, Calls, IsBounded}
use Rattle.gtp_check_judge.specs.Exam.{IsOrderly}
use Rattle.gtp_check_judge.proofs.order.Asked.{asked_orderly}
use Rattle.gtp_check_judge.proofs.order.Heard.{heard_orderly}
use Rattle.gtp_check_judge.proofs.talks.Silence.{begun_orderly}

-- the invariant of a check, with the starts that were counted
record Holds (most count : ℕ) (check : Check) : Type 0 where
  orderly : IsOrderly check.exam
  counted : count ≡ check.starts
  allowed : check.most_starts ≡ most
  few : check.starts ≤ check.most_starts

holds : (rule : KoRule) (most count : ℕ) (check : Check) → Calls rule most count check → Holds most count check
holds rule most count check Calls.opened = record {
  orderly = begun_orderly rule false;
  counted = refl;
  allowed = refl;
  few = omega arith;
}
holds rule most count check (Calls.start {count = n} {old = old} calls room) =
    let h : Holds most n old = holds rule most n old calls in
    record {
      orderly = begun_orderly old.exam.game.rule true;
      counted = ap (λ (k : ℕ). k + 1) h.counted;
      allowed = h.allowed;
      few = omega (arith, room);
    }
holds rule most count check (Calls.ask {count = n} {old = old} {new = new} command calls room asks) =
    let h : Holds most n old = holds rule most n old calls in
    record {
      orderly = asked_orderly old.exam command new h.orderly room asks;
      counted = h.counted;
      allowed = h.allowed;
      few = h.few;
    }
holds rule most count check (Calls.hear {count = n} {old = old} {new = new} bytes used read finding calls hears) =
    let h : Holds most n old = holds rule most n old calls in
    record {
      orderly = heard_orderly old.exam bytes used read finding new h.orderly hears;
      counted = h.counted;
      allowed = h.allowed;
      few = h.few;
    }
holds rule most count check (Calls.lost {count = n} {old = old} calls) =
    let h : Holds most n old = holds rule most n old calls in
    record { orderly = h.orderly; counted = h.counted; allowed = h.allowed; few = h.few }

pub bounded : (rule : KoRule) (most count : ℕ) (check : Check) → Calls rule most count check
    → IsBounded most count check
bounded rule most count check calls =
    let h : Holds most count check = holds rule most count check calls in
    record {
      counted = h.counted;
      few_starts = omega (arith, h.few, h.counted, h.allowed);
      few_unanswered = omega (arith, h.orderly.few);
      few_asked = h.orderly.ints;
    }
