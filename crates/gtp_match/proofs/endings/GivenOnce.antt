-- A verdict once given stays.
use Rattle.std.proofs.Common.{◌≡◌, ℕ, List, [], ◌∷◌, Option, Some, None, false, cond, refl, sym, ◌∙◌, ap, subst, drop}
use Rattle.go_base.specs.declared.colours.Colour.{Colour}
use Rattle.go_board.specs.Game.{without_last}
use Rattle.gtp_match.specs.declared.sides.EngineRun.{EngineRun}
use Rattle.gtp_match.specs.declared.verdicts.Action.{Action}
use Rattle.gtp_match.specs.declared.verdicts.Action.TheVariants.{Start, Send, Done}
use Rattle.gtp_match.specs.declared.verdicts.SideFault.{SideFault}
use Rattle.gtp_match.specs.declared.verdicts.Verdict.{Verdict}
use Rattle.gtp_match.specs.declared.controller.Controller.{Controller}
use Rattle.gtp_match.specs.Sides.{side_of}
use Rattle.gtp_match.specs.Controller.{verdict_when_down, downed, lost, lost_engine}
use Rattle.gtp_match.specs.Hearing.{MayKeep, HearsWhere, Hears, HearsAll, HearsAllBy}
use Rattle.gtp_match.specs.Next.{next}
use Rattle.gtp_match.specs.Calls.{Call, CallsBy, Calls, starts, sends, hears, hears_all, loses, IsOver}
use Rattle.gtp_match.specs.Taking.{unless_over, is_maker, takes_back}
use Rattle.gtp_match.proofs.actions.Tests.{next_done}

done_only : (c : Controller) (v : Verdict) (a : Action) → c.verdict ≡ Some v → next c ≡ a → Done v ≡ a
done_only c v a e says = sym (next_done c v e) ∙ says

-- nothing is to be taken back after a verdict
over_at : (v : Verdict) (c : Controller) → c.verdict ≡ Some v → IsOver v c c
over_at v c e = record { verdict = e; game = refl; retakes = refl; nothing = ap (λ w. unless_over w c.pending) e }

over_both : (v : Verdict) (a b c : Controller) → IsOver v a b → IsOver v b c → IsOver v a c
over_both v a b c x y = record {
  verdict = y.verdict;
  game = y.game ∙ x.game;
  retakes = y.retakes ∙ x.retakes;
  nothing = y.nothing;
}

ignored : (c : Controller) (s : Colour) (bytes : List ℕ) (v : Verdict) (used : ℕ) (fault : Option SideFault)
    (mid : Controller) → c.verdict ≡ Some v → Hears c s bytes used fault mid → IsOver v c mid
ignored c s bytes v used fault mid e h =
    let d = subst (λ (w : Option Verdict). HearsWhere MayKeep c s bytes w (side_of c.sides s).up used fault mid) e h in
    subst (IsOver v c) (sym d.same) (over_at v c e)

all_ignored : (s : Colour) (c mid : Controller) (bytes : List ℕ) (v : Verdict) (fault : Option SideFault)
    → c.verdict ≡ Some v → HearsAll s c bytes fault mid → IsOver v c mid
all_ignored s c mid bytes v fault e HearsAllBy.used_up = over_at v c e
all_ignored s c mid bytes v fault e (HearsAllBy.faulty used some h) = ignored c s bytes v used _ mid e h
all_ignored s c mid bytes v fault e (HearsAllBy.goes_on {mid = next} used some h more) =
    let first = ignored c s bytes v used _ next e h in
    over_both v c next mid first (all_ignored s next mid (drop used bytes) v fault first.verdict more)

lost_keeps : (c : Controller) (s : Colour) (v : Verdict) → c.verdict ≡ Some v → IsOver v c (lost c s)
lost_keeps c s v e = by_up (side_of c.sides s).up
  where
    nothing : takes_back c s ≡ false
    nothing = ap (λ w. is_maker (unless_over w c.pending) s) e

    by_up : (up : Option EngineRun) → IsOver v c (lost_engine c s up)
    by_up None = over_at v c e
    by_up (Some engine) =
        let given : (downed c s).verdict ≡ Some v = ap (verdict_when_down c s) e in
        record {
          verdict = given;
          game = ap (λ b. cond b (without_last c.game) c.game) nothing;
          retakes = refl;
          nothing = ap (λ w. unless_over w (downed c s).pending) given;
        }

-- ---- the sides after what is heard

pub once_stays : (c new : Controller) (s : Colour) (bytes : List ℕ) (used : ℕ) (fault : Option SideFault) (v : Verdict)
    → c.verdict ≡ Some v → Hears c s bytes used fault new → new.sides ≡ c.sides
once_stays c new s bytes used fault v e h =
    let d = subst (λ (w : Option Verdict). HearsWhere MayKeep c s bytes w (side_of c.sides s).up used fault new) e h in
    ap (λ (x : Controller). x.sides) d.same

pub all_stay : (s : Colour) (c new : Controller) (bytes : List ℕ) (fault : Option SideFault) (v : Verdict)
    → c.verdict ≡ Some v → HearsAll s c bytes fault new → new.sides ≡ c.sides
all_stay s c new bytes fault v e HearsAllBy.used_up = refl
all_stay s c new bytes fault v e (HearsAllBy.faulty used some h) = once_stays c new s bytes used _ v e h
all_stay s c new bytes fault v e (HearsAllBy.goes_on {mid = mid} used some h more) =
    let first = ignored c s bytes v used _ mid e h in
    all_stay s mid new (drop used bytes) fault v first.verdict more ∙ once_stays c mid s bytes used _ v e h

-- along the calls
pub verdicts_stay : (calls : List Call) (c last : Controller) (v : Verdict) → c.verdict ≡ Some v → Calls c calls last
    → IsOver v c last
verdicts_stay [] c last v e CallsBy.none = over_at v c e
verdicts_stay (starts s ∷ calls) c last v e (CallsBy.start says more) =
    absurd (let d : Done v ≡ Start s = done_only c v (Start s) e says in cc)
verdicts_stay (sends s ∷ calls) c last v e (CallsBy.send says more) =
    absurd (let d : Done v ≡ Send s = done_only c v (Send s) e says in cc)
verdicts_stay (hears s bytes ∷ calls) c last v e (CallsBy.hear {mid = mid} used fault h more) =
    let first = ignored c s bytes v used fault mid e h in
    over_both v c mid last first (verdicts_stay calls mid last v first.verdict more)
verdicts_stay (hears_all s bytes ∷ calls) c last v e (CallsBy.hear_all {mid = mid} fault h more) =
    let first = all_ignored s c mid bytes v fault e h in
    over_both v c mid last first (verdicts_stay calls mid last v first.verdict more)
verdicts_stay (loses s ∷ calls) c last v e (CallsBy.lose more) =
    let first = lost_keeps c s v e in
    over_both v c (lost c s) last first (verdicts_stay calls (lost c s) last v first.verdict more)
