-- How often a match has started each side, and how many commands it may have sent by that.
use Rattle.std.proofs.Common.{◌≡◌, ℕ, zero, suc, ◌+◌, ◌-◌, ◌*◌, ◌≤◌, List, [], ◌∷◌, drop, Option, Some, None, refl, sym}
use Rattle.std.proofs.Common.{◌∙◌, ap, subst, arith, inl, inr}
use Rattle.std.specs.Prelude.{◌⊎◌, IfSome}
use Rattle.std.proofs.Math.Nat.{suc-mul}
use Rattle.go_base.specs.Colour.{other}
use Rattle.go_board.specs.Game.{GameRecord}
use Rattle.go_base.specs.declared.colours.Colour.{Colour}
use Rattle.go_base.specs.declared.colours.Colour.TheVariants.{Black, White}
use Rattle.gtp_match.specs.declared.sides.EngineRun.{EngineRun}
use Rattle.gtp_match.specs.declared.sides.SideState.{SideState}
use Rattle.gtp_match.specs.declared.sides.Sides.{Sides}
use Rattle.gtp_match.specs.declared.reply_table.Outcome.{Outcome}
use Rattle.gtp_match.specs.declared.reply_table.Outcome.TheVariants.{Down, Unfit, Forfeits, Confirms, Resigns, Moves}
use Rattle.gtp_match.specs.declared.reply_table.Outcome.TheVariants.{Refuses, TakesBack, Keeps}
use Rattle.gtp_match.specs.declared.verdicts.Action.TheVariants.{Start, Send}
use Rattle.gtp_match.specs.declared.verdicts.SideFault.{SideFault}
use Rattle.gtp_match.specs.declared.verdicts.Verdict.{Verdict}
use Rattle.gtp_match.specs.declared.controller.Controller.{Controller}
use Rattle.gtp_match.specs.Setup.{SetupRecord, IsSetup}
use Rattle.gtp_match.specs.Unanswered.{oldest}
use Rattle.gtp_match.specs.Sides.{side_of, with_side, started_side, downed_side, with_engine, with_engine_of, with_sent}
use Rattle.gtp_match.specs.Sides.{answered, confirmed, taken_back, heard_reply}
use Rattle.gtp_match.specs.Controller.{new, with_side_up, started, next_command, sent, sent_to, downed, lost}
use Rattle.gtp_match.specs.Controller.{lost_engine}
use Rattle.gtp_match.specs.Next.{next}
use Rattle.gtp_match.specs.ReplyTable.{outcome, after_outcome}
use Rattle.gtp_match.specs.Hearing.{MayKeep, HearsUp, HearsWhere, Hears, HearsAll, HearsAllBy}
use Rattle.gtp_match.specs.Sound.{most_commands, IsSound}
use Rattle.gtp_match.specs.Taking.{may_retake}
use Rattle.gtp_match.specs.Calls.{Call, starts, sends, hears, hears_all, loses, CallsBy, Calls, one_of, count_starts}
use Rattle.gtp_match.specs.Calls.{count_sends, IsBounded}
use Rattle.gtp_match.proofs.replies.Refusals.{refused_all}
use Rattle.gtp_match.proofs.actions.Conditions.{says_start, says_send, MakerIsUp}
use Rattle.gtp_match.proofs.soundness.Calls.{changed, my_side, my_engine, my_start, started_sound, sent_sound}
use Rattle.gtp_match.proofs.soundness.Down.{lost_sound}
use Rattle.gtp_match.proofs.soundness.Calls.{new_sound, maker_is_up}
use Rattle.gtp_match.proofs.soundness.Heard.{hears_sound, hears_all_sound}
use Rattle.gtp_match.proofs.soundness.CallLists.{opening_is_game}

-- ---- products

same_or_less : (n m : ℕ) → n ≤ suc m → (n ≡ suc m) ⊎ (n ≤ m)
same_or_less n m h = grind arith

times_step : (n m k : ℕ) → (n ≡ suc m) ⊎ (n ≤ m) → (n ≤ m → n * k ≤ m * k) → n * k ≤ suc m * k
times_step n m k (inl same) smaller = rw same (omega arith)
times_step n m k (inr less) smaller = omega (arith, smaller less, suc-mul m k)

times_mono : (n m k : ℕ) → n ≤ m → n * k ≤ m * k
times_mono n zero k h = let none : n ≡ zero = omega (arith, h) in rw none (omega arith)
times_mono n (suc m) k h = times_step n m k (same_or_less n m h) (λ less. times_mono n m k less)

times_pred : (n k : ℕ) → 1 ≤ n → n * k ≡ (n - 1) * k + k
times_pred zero k h = absurd (omega (arith, h))
times_pred (suc n) k h =
    let less : suc n - 1 ≡ n = omega arith in
    suc-mul n k ∙ ap (λ m. m * k + k) (sym less)

-- ---- how often the sides were started

pub started_starts : (c : Controller) (s t : Colour)
    → (side_of (started c s).sides t).starts ≡ (side_of c.sides t).starts + one_of t s
started_starts c Black Black = refl
started_starts c Black White = omega arith
started_starts c White Black = omega arith
started_starts c White White = refl

pub up_starts : (sides : Sides) (s t : Colour) (engine : EngineRun)
    → (side_of (with_engine_of s engine sides) t).starts ≡ (side_of sides t).starts
up_starts sides Black Black engine = refl
up_starts sides Black White engine = refl
up_starts sides White Black engine = refl
up_starts sides White White engine = refl

pub down_starts : (sides : Sides) (s t : Colour)
    → (side_of (with_side s (downed_side (side_of sides s)) sides) t).starts ≡ (side_of sides t).starts
down_starts sides Black Black = refl
down_starts sides Black White = refl
down_starts sides White Black = refl
down_starts sides White White = refl

-- ---- what a side may have been sent

abbrev spent_by : ℕ → ℕ → Option EngineRun → ℕ
spent_by k n None = n * k
spent_by k n (Some engine) = (n - 1) * k + engine.sent

abbrev spent : ℕ → SideState → ℕ
spent k state = spent_by k state.starts state.up

abbrev total : ℕ → Sides → ℕ
total k sides = spent k sides.black + spent k sides.white

-- the total by one side and the other
total_of : (k : ℕ) (sides : Sides) (s : Colour)
    → total k sides ≡ spent k (side_of sides s) + spent k (side_of sides (other s))
total_of k sides Black = refl
total_of k sides White = omega arith

total_with : (k : ℕ) (sides : Sides) (s : Colour) (state : SideState)
    → total k (with_side s state sides) ≡ spent k state + spent k (side_of sides (other s))
total_with k sides Black state = refl
total_with k sides White state = omega arith

spent_up : (k : ℕ) (state : SideState) (engine : EngineRun) → state.up ≡ Some engine
    → spent k state ≡ (state.starts - 1) * k + engine.sent
spent_up k state engine up = ap (spent_by k state.starts) up

spent_down : (k : ℕ) (state : SideState) → state.up ≡ None → spent k state ≡ state.starts * k
spent_down k state down = ap (spent_by k state.starts) down

-- ---- each call

start_total : (k : ℕ) (c : Controller) (s : Colour) → next c ≡ Start s → total k (started c s).sides ≡ total k c.sides
start_total k c s e =
    let says = says_start c s e in
    let same : (side_of c.sides s).starts + 1 - 1 ≡ (side_of c.sides s).starts = omega arith in
    total_with k c.sides s (started_side (side_of c.sides s))
    ∙ omega (arith, total_of k c.sides s, spent_down k (side_of c.sides s) says.down, ap (λ n. n * k) same)

-- where a command is sent, the side is up
sent_is : (c : Controller) (s : Colour) → MakerIsUp c → next c ≡ Send s
    → (engine : EngineRun) × ((side_of c.sides s).up ≡ Some engine)
    × (sent c s ≡ with_side_up c s (with_sent (next_command c s engine) engine))
sent_is c s maker_up e = let says = says_send c s maker_up e in (says.engine, says.up, ap (sent_to c s) says.up)

send_total : (k : ℕ) (c : Controller) (s : Colour) → MakerIsUp c → next c ≡ Send s
    → total k (sent c s).sides ≡ total k c.sides + 1
send_total k c s maker_up e =
    let x = sent_is c s maker_up e in
    ap (λ (y : Controller). total k y.sides) x.2
    ∙ total_with k c.sides s (with_engine (with_sent (next_command c s x.0) x.0) (side_of c.sides s))
    ∙ omega (arith, total_of k c.sides s, spent_up k (side_of c.sides s) x.0 x.1)

send_starts : (c : Controller) (s t : Colour) → MakerIsUp c → next c ≡ Send s
    → (side_of (sent c s).sides t).starts ≡ (side_of c.sides t).starts
send_starts c s t maker_up e =
    let x = sent_is c s maker_up e in
    ap (λ (y : Controller). (side_of y.sides t).starts) x.2
    ∙ up_starts c.sides s t (with_sent (next_command c s x.0) x.0)

send_setup : (c : Controller) (s : Colour) → MakerIsUp c → next c ≡ Send s → (sent c s).setup ≡ c.setup
send_setup c s maker_up e = let x = sent_is c s maker_up e in ap (λ (y : Controller). y.setup) x.2

-- what a call other than a start or a command leaves: the setup, the starts, and at least what was spent
pub record Leaves (k : ℕ) (c c2 : Controller) : Type 0 where
  pub setup : c2.setup ≡ c.setup
  pub starts : (t : Colour) → (side_of c2.sides t).starts ≡ (side_of c.sides t).starts
  more : total k c.sides ≤ total k c2.sides

stays : (k : ℕ) (c c2 : Controller) → c2 ≡ c → Leaves k c c2
stays k c c2 same =
    subst (λ (x : Controller). Leaves k c x) (sym same)
    (record { setup = refl; starts = λ t. refl; more = omega arith })

-- an engine that is up, with its limits
record IsLimited (k : ℕ) (c : Controller) (s : Colour) (engine : EngineRun) : Type 0 where
  up : (side_of c.sides s).up ≡ Some engine
  few : engine.sent ≤ k
  begun : 1 ≤ (side_of c.sides s).starts

limited : (k : ℕ) (c : Controller) (s : Colour) (engine : EngineRun) → IsSound c → most_commands c.setup ≡ k
    → (side_of c.sides s).up ≡ Some engine → IsLimited k c s engine
limited k c s engine h is up =
    let e = my_engine c s engine h up in
    record { up = up; few = omega (arith, e.sent, is); begun = my_start c s engine h up }

-- another engine, that was sent as much
engine_leaves : (k : ℕ) (c : Controller) (s : Colour) (engine new_engine : EngineRun) (verdict : Option Verdict)
    (game : GameRecord) (pending : Option Colour) (retakes : List ℕ)
    → IsLimited k c s engine → new_engine.sent ≡ engine.sent
    → Leaves k c (changed c game verdict (with_engine_of s new_engine c.sides) pending retakes)
engine_leaves k c s engine new_engine verdict game pending retakes l same = record {
  setup = refl;
  starts = λ t. up_starts c.sides s t new_engine;
  more = omega (
    arith,
    total_with k c.sides s (with_engine new_engine (side_of c.sides s)),
    total_of k c.sides s,
    spent_up k (side_of c.sides s) engine l.up,
    same,
  );
}

down_leaves : (k : ℕ) (c : Controller) (s : Colour) (engine : EngineRun) → IsLimited k c s engine
    → Leaves k c (downed c s)
down_leaves k c s engine l = record {
  setup = refl;
  starts = λ t. down_starts c.sides s t;
  more = omega (
    arith,
    total_with k c.sides s (downed_side (side_of c.sides s)),
    total_of k c.sides s,
    spent_up k (side_of c.sides s) engine l.up,
    l.few,
    times_pred (side_of c.sides s).starts k l.begun,
  );
}

outcome_leaves : (k : ℕ) (c : Controller) (s : Colour) (engine : EngineRun) (o : Outcome) → IsLimited k c s engine
    → Leaves k c (after_outcome c s (heard_reply engine) o)
outcome_leaves k c s engine (Down fault) l = down_leaves k c s engine l
outcome_leaves k c s engine Unfit l = engine_leaves k c s engine (heard_reply engine) _ _ _ _ l refl
outcome_leaves k c s engine (Forfeits cause) l = engine_leaves k c s engine (heard_reply engine) _ _ _ _ l refl
outcome_leaves k c s engine Confirms l = engine_leaves k c s engine (confirmed (heard_reply engine)) _ _ _ _ l refl
outcome_leaves k c s engine Resigns l = engine_leaves k c s engine (answered (heard_reply engine)) _ _ _ _ l refl
outcome_leaves k c s engine (Moves v) l = engine_leaves k c s engine (confirmed (heard_reply engine)) _ _ _ _ l refl
outcome_leaves k c s engine Refuses l =
    refused_all (Leaves k c) c s (heard_reply engine)
    (engine_leaves k c s engine (heard_reply engine) _ _ _ _ l refl)
    (engine_leaves k c s engine (answered (heard_reply engine)) _ _ _ _ l refl)
    (engine_leaves k c s engine (answered (heard_reply engine)) _ _ _ _ l refl)
    (may_retake c s (heard_reply engine))
outcome_leaves k c s engine TakesBack l = engine_leaves k c s engine (taken_back (heard_reply engine)) _ _ _ _ l refl
outcome_leaves k c s engine Keeps l = engine_leaves k c s engine (heard_reply engine) _ _ _ _ l refl

up_leaves : (k : ℕ) (c : Controller) (s : Colour) (engine : EngineRun) (bytes : List ℕ) (used : ℕ)
    (fault : Option SideFault) (c2 : Controller) → IsLimited k c s engine
    → HearsUp MayKeep c s engine bytes used fault c2 → Leaves k c c2
up_leaves k c s engine bytes used fault c2 l (HearsUp.replied {value = reply} first) =
    outcome_leaves k c s engine (outcome c.game s (oldest engine.unanswered) reply) l
up_leaves k c s engine bytes used fault c2 l (HearsUp.faulted first) = down_leaves k c s engine l
up_leaves k c s engine bytes used fault c2 l (HearsUp.nothing_yet {kept = text} quiet is) =
    engine_leaves k c s engine (record engine { reader = text }) _ _ _ _ l refl

pub hears_leaves : (k : ℕ) (c : Controller) (s : Colour) (bytes : List ℕ) (used : ℕ) (fault : Option SideFault)
    (c2 : Controller) → IsSound c → most_commands c.setup ≡ k → Hears c s bytes used fault c2 → Leaves k c c2
hears_leaves k c s bytes used fault c2 h is heard = by_state c.verdict (side_of c.sides s).up refl heard
  where
    by_state : (v : Option Verdict) (up : Option EngineRun) → (side_of c.sides s).up ≡ up
        → HearsWhere MayKeep c s bytes v up used fault c2 → Leaves k c c2
    by_state (Some v) up e x = stays k c c2 x.same
    by_state None None e x = stays k c c2 x.same
    by_state None (Some engine) e x = up_leaves k c s engine bytes used fault c2 (limited k c s engine h is e) x

lost_leaves : (k : ℕ) (c : Controller) (s : Colour) → IsSound c → most_commands c.setup ≡ k → Leaves k c (lost c s)
lost_leaves k c s h is = by_up (side_of c.sides s).up refl
  where
    by_up : (up : Option EngineRun) → (side_of c.sides s).up ≡ up → Leaves k c (lost_engine c s up)
    by_up None e = stays k c c refl
    by_up (Some engine) e = down_leaves k c s engine (limited k c s engine h is e)

-- the limit of an engine's commands stays
limit_is : (k : ℕ) (c c2 : Controller) → c2.setup ≡ c.setup → most_commands c.setup ≡ k → most_commands c2.setup ≡ k
limit_is k c c2 same is = omega (arith, is, ap (λ (p : SetupRecord). p.max_moves) same)

pub all_leaves : (k : ℕ) (s : Colour) (c new : Controller) (bytes : List ℕ) (fault : Option SideFault) → IsSound c
    → most_commands c.setup ≡ k → HearsAll s c bytes fault new → Leaves k c new
all_leaves k s c new bytes fault h is HearsAllBy.used_up = stays k c c refl
all_leaves k s c new bytes fault h is (HearsAllBy.faulty used some heard) =
    hears_leaves k c s bytes used _ new h is heard
all_leaves k s c new bytes fault h is (HearsAllBy.goes_on {mid = mid} used some heard more) =
    let first = hears_leaves k c s bytes used _ mid h is heard in
    let rest = all_leaves k s mid new (drop used bytes) fault (hears_sound c s bytes used _ mid h heard)
    (limit_is k c mid first.setup is) more
    in
    record {
      setup = rest.setup ∙ first.setup;
      starts = λ t. rest.starts t ∙ first.starts t;
      more = omega (arith, first.more, rest.more);
    }

-- ---- a list of calls

record Counted (k : ℕ) (calls : List Call) (c last : Controller) : Type 0 where
  setup : last.setup ≡ c.setup
  starts : (t : Colour) → count_starts t calls + (side_of c.sides t).starts ≡ (side_of last.sides t).starts
  sends : count_sends calls + total k c.sides ≤ total k last.sides
  sound : IsSound last

counted : (k : ℕ) (calls : List Call) (c last : Controller) → IsSound c → most_commands c.setup ≡ k
    → Calls c calls last → Counted k calls c last
counted k [] c last h is CallsBy.none =
    record { setup = refl; starts = λ t. omega arith; sends = omega arith; sound = h }
counted k (starts s ∷ calls) c last h is (CallsBy.start e more) =
    let r = counted k calls (started c s) last (started_sound c s h e) is more in
    record {
      setup = r.setup;
      starts = λ t. omega (arith, r.starts t, started_starts c s t);
      sends = omega (arith, r.sends, start_total k c s e);
      sound = r.sound;
    }
counted k (sends s ∷ calls) c last h is (CallsBy.send e more) =
    let up = maker_is_up c h in
    let same = send_setup c s up e in
    let r = counted k calls (sent c s) last (sent_sound c s h e) (limit_is k c (sent c s) same is) more in
    record {
      setup = r.setup ∙ same;
      starts = λ t. omega (arith, r.starts t, send_starts c s t up e);
      sends = omega (arith, r.sends, send_total k c s up e);
      sound = r.sound;
    }
counted k (hears s bytes ∷ calls) c last h is (CallsBy.hear {mid = mid} used fault heard more) =
    let leaves = hears_leaves k c s bytes used fault mid h is heard in
    let r = counted k calls mid last (hears_sound c s bytes used fault mid h heard)
    (limit_is k c mid leaves.setup is) more in
    record {
      setup = r.setup ∙ leaves.setup;
      starts = λ t. omega (arith, r.starts t, leaves.starts t);
      sends = omega (arith, r.sends, leaves.more);
      sound = r.sound;
    }
counted k (hears_all s bytes ∷ calls) c last h is (CallsBy.hear_all {mid = mid} fault heard more) =
    let leaves = all_leaves k s c mid bytes fault h is heard in
    let r = counted k calls mid last (hears_all_sound s c mid bytes fault h heard)
    (limit_is k c mid leaves.setup is) more in
    record {
      setup = r.setup ∙ leaves.setup;
      starts = λ t. omega (arith, r.starts t, leaves.starts t);
      sends = omega (arith, r.sends, leaves.more);
      sound = r.sound;
    }
counted k (loses s ∷ calls) c last h is (CallsBy.lose more) =
    let leaves = lost_leaves k c s h is in
    let r = counted k calls (lost c s) last (lost_sound c s h) (limit_is k c (lost c s) leaves.setup is) more in
    record {
      setup = r.setup ∙ leaves.setup;
      starts = λ t. omega (arith, r.starts t, leaves.starts t);
      sends = omega (arith, r.sends, leaves.more);
      sound = r.sound;
    }

-- a side is sent at most its starts' share
spent_few : (c : Controller) (s : Colour) → IsSound c
    → spent (most_commands c.setup) (side_of c.sides s) ≤ (c.setup.max_restarts + 1) * most_commands c.setup
spent_few c s h = by_up (side_of c.sides s).up refl
  where
    k : ℕ
    k = most_commands c.setup

    most : (side_of c.sides s).starts * k ≤ (c.setup.max_restarts + 1) * k
    most = times_mono (side_of c.sides s).starts (c.setup.max_restarts + 1) k (my_side c s h).starts

    by_up : (up : Option EngineRun) → (side_of c.sides s).up ≡ up
        → spent k (side_of c.sides s) ≤ (c.setup.max_restarts + 1) * k
    by_up None e = omega (arith, spent_down k (side_of c.sides s) e, most)
    by_up (Some engine) e =
        omega (
          arith,
          spent_up k (side_of c.sides s) engine e,
          (my_engine c s engine h e).sent,
          times_pred (side_of c.sides s).starts k (my_start c s engine h e),
          most,
        )

-- what holds of the last match is said by the setup of the first
bounded : (setup : SetupRecord) (calls : List Call) (last : Controller) → IsSound last
    → count_sends calls ≤ total (most_commands last.setup) last.sides
    → ((t : Colour) → count_starts t calls ≡ (side_of last.sides t).starts)
    → last.setup ≡ setup → IsBounded setup calls last
bounded setup calls last h most each same =
    let K : SetupRecord → Type 0 = λ p. IsBounded p calls last in
    subst K same (record {
      starts = λ t. omega (arith, each t, (my_side last t h).starts);
      sends = omega (arith, most, spent_few last Black h, spent_few last White h);
      one_engine = λ t. by_up t (side_of last.sides t).up refl;
      retakes = h.retakes.few;
    })
  where
    by_up : (t : Colour) (up : Option EngineRun) → (side_of last.sides t).up ≡ up
        → IfSome up (λ engine. engine.sent ≤ most_commands last.setup)
    by_up t None e = tt
    by_up t (Some engine) e = (my_engine last t engine h e).sent

pub match_bounded : (setup : SetupRecord) (calls : List Call) (last : Controller) → IsSetup setup
    → Calls (new setup) calls last → IsBounded setup calls last
match_bounded setup calls last is all =
    let r = counted (most_commands setup) calls (new setup) last
    (new_sound setup is (opening_is_game setup is)) refl all in
    let T : ℕ → Type 0 = λ n. count_sends calls ≤ total (7 * n + 4) last.sides in
    bounded setup calls last r.sound
    (subst T (sym (ap (λ (p : SetupRecord). p.max_moves) r.setup)) (omega (arith, r.sends)))
    (λ t. omega (arith, r.starts t, no_starts t)) r.setup
  where
    no_starts : (t : Colour) → (side_of (new setup).sides t).starts ≡ 0
    no_starts Black = refl
    no_starts White = refl
