-- Catching up: a start and a round of a side.
use Rattle.std.proofs.Common.{◌≡◌, ℕ, zero, suc, ◌+◌, ◌<◌, ◌≤◌, true, false, List, [], ◌∷◌, length, drop, Option}
use Rattle.std.proofs.Common.{Some, None, slice_get, refl, sym, ◌∙◌, ap, subst, arith}
use Rattle.std.specs.Prelude.{◌&&◌, ◌==◌, not, nat_lt, is_some, IsSome}
use Rattle.std.proofs.lemmas.Bool.Decides.{nat_tests}
use Rattle.go_base.specs.Colour.{other}
use Rattle.go_base.specs.declared.colours.Colour.{Colour}
use Rattle.go_base.specs.declared.colours.Colour.TheVariants.{Black, White}
use Rattle.go_board.specs.Game.{GameRecord, IsGame}
use Rattle.gtp_wire.specs.declared.commands.Command.{Command}
use Rattle.gtp_session.proofs.choosing.Policies.{AllowsLawful}
use Rattle.gtp_session.specs.Engine.{Engine}
use Rattle.gtp_match.specs.declared.unanswered.SentCommand.{SentCommand}
use Rattle.gtp_match.specs.declared.sides.EngineRun.{EngineRun}
use Rattle.gtp_match.specs.declared.sides.SideState.{SideState}
use Rattle.gtp_match.specs.declared.verdicts.Action.TheVariants.{Start, Send}
use Rattle.gtp_match.specs.declared.controller.Controller.{Controller}
use Rattle.gtp_match.specs.Controller.{to_move, engine_in_step, in_step}
use Rattle.gtp_match.specs.Next.{has_unanswered, must_answer, is_down, has_script_left, next_of_idle, next_of_free}
use Rattle.gtp_match.specs.Next.{next}
use Rattle.gtp_match.specs.declared.verdicts.Verdict.{Verdict}
use Rattle.gtp_match.specs.Taking.{taking_back, unless_over}
use Rattle.gtp_match.specs.Sound.{all_retakes}
use Rattle.gtp_match.specs.Unanswered.{none_unanswered}
use Rattle.gtp_match.specs.Script.{script}
use Rattle.gtp_match.specs.Sides.{side_of, new_run}
use Rattle.gtp_match.specs.Sound.{IsIdle}
use Rattle.gtp_match.proofs.actions.Tests.{IdleTests, idle_tests_of, tests_of, next_live, at_idle, at_black_down}
use Rattle.gtp_match.proofs.actions.Tests.{at_white_down, at_black_script_left, at_white_script_left}
use Rattle.gtp_match.proofs.soundness.Calls.{my_engine, idle_plan}
use Rattle.gtp_world.specs.declared.events.Event.{Event}
use Rattle.gtp_world.specs.declared.events.Event.TheVariants.{Act, ToEngine, ToController}
use Rattle.gtp_world.specs.Lane.{Lane, SidePolicies}
use Rattle.gtp_world.specs.World.{World, at_side, lane_of, SameLane, Sends, SideHears, policies_at, Happens}
use Rattle.gtp_world.specs.Settle.{script_left, RunsWhereUp, MaySettle, IsSettled}
use Rattle.gtp_world.proofs.joined.JoinedLemmas.{seen_from, at_its_side, acted}
use Rattle.gtp_world.proofs.joined.EventLemmas.{lawful_at, happens_keeps}
use Rattle.gtp_world.proofs.settling.RoundLemmas.{at_put, other_put, IsReady, IsOneLine, one_line_sent, RoundDone}
use Rattle.gtp_world.proofs.settling.RoundLemmas.{round_done}
use Rattle.gtp_world.specs.Joined.{Rules, rule_of, ruled, bare, IsJoined}
use Rattle.gtp_world.specs.Laws.{rules_of}

-- ---- what comes next

-- nothing is unanswered of a side that is idle
free_of : (game : GameRecord) (up : Option EngineRun) → IsIdle up → must_answer game up ≡ false
free_of game None idle = refl
free_of game (Some u) idle = ap (λ (os : List SentCommand). must_answer game (Some (record u { unanswered = os }))) idle

none_of : (up : Option EngineRun) → IsIdle up → has_unanswered up ≡ false
none_of None idle = refl
none_of (Some u) idle = ap (λ (os : List SentCommand). not (none_unanswered os)) idle

-- so the last lines say what comes next
next_where_idle : (c : Controller) → c.verdict ≡ None → c.pending ≡ None → IsIdle c.sides.black.up
    → IsIdle c.sides.white.up
    → next c ≡ next_of_idle c.game c.sides.black.up c.sides.white.up
next_where_idle c none free black white =
    next_live c none
    ∙ sym (at_idle (tests_of c.game c.sides.black.up c.sides.white.up)
    (next_of_free c.pending c.game c.sides.black.up c.sides.white.up)
    (record {
      black_free = free_of c.game c.sides.black.up black;
      white_free = free_of c.game c.sides.white.up white;
      black_idle = none_of c.sides.black.up black;
      white_idle = none_of c.sides.white.up white;
    }))
    ∙ ap (λ (p : Option Colour). next_of_free p c.game c.sides.black.up c.sides.white.up) free

idle_down : (up : Option EngineRun) → up ≡ None → IsIdle up
idle_down up down = subst IsIdle (sym down) tt

idle_up : (up : Option EngineRun) (u : EngineRun) → up ≡ Some u → u.unanswered ≡ [] → IsIdle up
idle_up up u is idle = subst IsIdle (sym is) idle

starts_black : (c : Controller) → c.verdict ≡ None → c.pending ≡ None → IsIdle c.sides.white.up
    → c.sides.black.up ≡ None
    → next c ≡ Start Black
starts_black c none free idle down =
    next_where_idle c none free (idle_down c.sides.black.up down) idle
    ∙ sym (at_black_down (to_move c.game) (idle_tests_of c.game c.sides.black.up c.sides.white.up) (ap is_down down))

starts_white : (c : Controller) (black : EngineRun) → c.verdict ≡ None → c.pending ≡ None
    → c.sides.black.up ≡ Some black
    → black.unanswered ≡ [] → c.sides.white.up ≡ None → next c ≡ Start White
starts_white c black none free up idle down =
    next_where_idle c none free (idle_up c.sides.black.up black up idle) (idle_down c.sides.white.up down)
    ∙ sym (at_white_down (to_move c.game) (idle_tests_of c.game c.sides.black.up c.sides.white.up) (ap is_down up)
    (ap is_down down))

lacks_some : (game : GameRecord) (u : EngineRun) → u.unanswered ≡ [] → u.confirmed < length (script game)
    → has_script_left game (Some u) ≡ true
lacks_some game u idle less =
    below (u.confirmed + length u.unanswered) (length (script game)) (omega (arith, less, ap length idle))
  where
    below : (m n : ℕ) → m < n → nat_lt m n ≡ true
    below m n h = grind (arith, nat_tests)

lacks_none : (game : GameRecord) (u : EngineRun) → length (script game) ≤ u.confirmed
    → has_script_left game (Some u) ≡ false
lacks_none game u all = above (u.confirmed + length u.unanswered) (length (script game)) (omega (arith, all))
  where
    above : (m n : ℕ) → n ≤ m → nat_lt m n ≡ false
    above m n h = grind (arith, nat_tests)

module _ (c : Controller) (black white : EngineRun) (none : c.verdict ≡ None) (free : c.pending ≡ None)
    (black_up : c.sides.black.up ≡ Some black) (white_up : c.sides.white.up ≡ Some white)
    (black_idle : black.unanswered ≡ []) (white_idle : white.unanswered ≡ []) where
  abbrev tests : IdleTests
  tests = idle_tests_of c.game c.sides.black.up c.sides.white.up

  next_is : next c ≡ next_of_idle c.game c.sides.black.up c.sides.white.up
  next_is =
      next_where_idle c none free (idle_up c.sides.black.up black black_up black_idle)
      (idle_up c.sides.white.up white white_up white_idle)

  sends_black : black.confirmed < length (script c.game) → next c ≡ Send Black
  sends_black less =
      next_is
      ∙ sym (at_black_script_left (to_move c.game) tests (ap is_down black_up)
      (ap is_down white_up) (ap (has_script_left c.game) black_up ∙ lacks_some c.game black black_idle less))

  sends_white : length (script c.game) ≤ black.confirmed → white.confirmed < length (script c.game)
      → next c ≡ Send White
  sends_white all less =
      next_is
      ∙ sym (at_white_script_left (to_move c.game) tests (ap is_down black_up)
      (ap is_down white_up) (ap (has_script_left c.game) black_up ∙ lacks_none c.game black all)
      (ap (has_script_left c.game) white_up ∙ lacks_some c.game white white_idle less))

-- the side is next to be sent its script: Black at once, White where Black has confirmed as many commands as it has
abbrev pub MaySend : GameRecord → Colour → ℕ → Type 0
MaySend game Black black = Unit {0}
MaySend game White black = length (script game) ≤ black

sends_side : (c : Controller) (s : Colour) (mine theirs : EngineRun) → c.verdict ≡ None → c.pending ≡ None
    → (side_of c.sides s).up ≡ Some mine → (side_of c.sides (other s)).up ≡ Some theirs → mine.unanswered ≡ []
    → theirs.unanswered ≡ [] → mine.confirmed < length (script c.game) → MaySend c.game s theirs.confirmed
    → next c ≡ Send s
sends_side c Black mine theirs none free up others idle others_idle less may =
    sends_black c mine theirs none free up others idle others_idle less
sends_side c White mine theirs none free up others idle others_idle less may =
    sends_white c theirs mine none free others up others_idle idle may less

-- ---- lists

pub drop_head : {A : Type 0} (xs : List A) (n : ℕ) (x : A) (left : List A) → drop n xs ≡ x ∷ left
    → (slice_get xs n ≡ Some x) × (drop (suc n) xs ≡ left) × (n < length xs)
drop_head [] zero x left e = absurd (cc e)
drop_head [] (suc n) x left e = absurd (cc e)
drop_head (y ∷ xs) zero x left e = let head : y ≡ x = cc e in (ap (λ (z : _). Some z) head, cc e, omega arith)
drop_head (y ∷ xs) (suc n) x left e = let rest = drop_head xs n x left e in (rest.0, rest.1, omega (arith, rest.2))

pub drop_none : {A : Type 0} (xs : List A) (n : ℕ) → drop n xs ≡ [] → length xs ≤ n
drop_none [] n e = omega arith
drop_none (x ∷ xs) zero e = absurd (cc e)
drop_none (x ∷ xs) (suc n) e = omega (arith, drop_none xs n e)

pub some_of : {A : Type 0} (o : Option A) → IsSome o → (x : A) × (o ≡ Some x)
some_of None h = absurd (cc h)
some_of (Some x) h = (x, refl)

-- a side stays as it was
stays_ready : {P : Type 0} (up up2 : Option EngineRun) (l l2 : Lane P) (n : ℕ) → up2 ≡ up → l2 ≡ l → IsReady up l n
    → IsReady up2 l2 n
stays_ready {P} up up2 l l2 n e f h = record {
  incarnation = h.incarnation;
  is_up = e ∙ h.is_up;
  idle = h.idle;
  confirmed = h.confirmed;
  running = h.running;
  runs = ap (λ (x : Lane P). x.engine) f ∙ h.runs;
}

-- a side that was just started
new_ready : {P : Type 0} (up : Option EngineRun) (l : Lane P) (e : Engine P) → up ≡ Some new_run
    → l.engine ≡ Some e → IsReady up l 0
new_ready up l e is runs =
    record { incarnation = new_run; is_up = is; idle = refl; confirmed = refl; running = e; runs = runs }

module _ {B W : Type 0} (mb : SidePolicies B) (mw : SidePolicies W) (law_b : AllowsLawful mb.may)
    (law_w : AllowsLawful mw.may) where
  -- the ko rules of both sides
  abbrev rules : Rules
  rules = rules_of mb mw

  -- Both sides are up with running engines and nothing unanswered. The side has confirmed as many commands as the first
  -- count says, and the other side as many as the second.
  pub record Settling (game : GameRecord) (v : World B W) (s : Colour) (mine theirs : ℕ) : Type 0 where
    pub inv : IsJoined rules v
    pub none : v.controller.verdict ≡ None
    pub free : v.controller.pending ≡ None
    pub games : (side : Colour) → IsGame (ruled (rule_of rules side) v.controller.game)
    pub game_is : v.controller.game ≡ game
    pub own : IsReady (side_of v.controller.sides s).up (lane_of v s) mine
    pub others : IsReady (side_of v.controller.sides (other s)).up (lane_of v (other s)) theirs

  -- it is seen from White
  pub turned : (game : GameRecord) (v : World B W) (n m : ℕ) → Settling game v Black n m → Settling game v White m n
  turned game v n m h = record {
    inv = h.inv;
    none = h.none;
    free = h.free;
    games = h.games;
    game_is = h.game_is;
    own = h.others;
    others = h.own;
  }

  pub within : (game : GameRecord) (v : World B W) (s : Colour) (n m : ℕ) → Settling game v s n m
      → n ≤ length (script game)
  within game v s n m h =
      let u = h.own.incarnation in
      let few : u.confirmed ≤ length (script v.controller.game) =
      idle_plan v.controller.game v.controller.pending (all_retakes v.controller) s u
      ((my_engine v.controller s u h.inv.sound h.own.is_up).under_way h.none) h.own.idle in
      omega (arith, few, h.own.confirmed, ap (λ (g : GameRecord). length (script g)) h.game_is)

  keeps : (v : World B W) (e : Event) (v2 : World B W) → Happens mb mw v e v2 → IsJoined rules v → IsJoined rules v2
  keeps v e v2 h j = happens_keeps mb mw law_b law_w v e v2 h j

  -- the game stays one under the ko rule of each side
  still_games : (rules : Rules) (c c2 : Controller) → c2.game ≡ c.game
      → ((side : Colour) → IsGame (ruled (rule_of rules side) c.game)) → (side : Colour)
      → IsGame (ruled (rule_of rules side) c2.game)
  still_games rules c c2 same games side =
      let G : GameRecord → Type 0 = λ g. IsGame (ruled (rule_of rules side) g) in subst G (sym same) (games side)

  -- in a round of a side it is sent the next command of the script
  module _ (game : GameRecord) (k : Command) (v v1 : World B W) (s : Colour) (n m : ℕ) (h : Settling game v s n m)
      (may : MaySend game s m) (scripted : slice_get (script game) n ≡ Some k) (less : n < length (script game))
      (a : Happens mb mw v Act v1) where
    abbrev c : Controller
    c = v.controller

    send_is_next : next c ≡ Send s
    send_is_next =
        let fewer : h.own.incarnation.confirmed < length (script c.game) =
        omega (arith, less, h.own.confirmed, ap (λ (g : GameRecord). length (script g)) h.game_is) in
        let turn : MaySend c.game s h.others.incarnation.confirmed =
        subst (λ (g : GameRecord). MaySend g s h.others.incarnation.confirmed) (sym h.game_is)
        (subst (MaySend game s) (sym h.others.confirmed) may) in
        sends_side c s h.own.incarnation h.others.incarnation h.none h.free h.own.is_up h.others.is_up h.own.idle
        h.others.idle fewer turn

    here : slice_get (script c.game) n ≡ Some k
    here = ap (λ (g : GameRecord). slice_get (script g) n) h.game_is ∙ scripted

    abbrev sent_now : Sends s c (lane_of v s) v1.controller (lane_of v1 s) × SameLane (other s) v v1
    sent_now = acted mb mw (Send s) s refl v v1 send_is_next a

    -- all that is on its way to its engine then is one line, which asks for no choice
    pub one_line_comes : ((lane_of v1 s).engine ≡ Some h.own.running)
        × IsOneLine h.own.running (lane_of v1 s).to_engine
    one_line_comes =
        one_line_sent (policies_at mb mw s).may (lawful_at mb mw law_b law_w s) rules s c (lane_of v s)
        (bare (lane_of v (other s))) n send_is_next (seen_from rules v s h.inv) (h.games s) h.free h.none h.own k here
        v1.controller (lane_of v1 s) sent_now.0

    -- once it was read and answered, and the answer was heard, the command is confirmed
    pub round_settles : (v2 v3 : World B W) → Happens mb mw v1 (ToEngine s 100) v2
        → Happens mb mw v2 (ToController s 100) v3 → Settling game v3 s (n + 1) m
    round_settles v2 v3 b d =
        let fed = at_its_side mb mw s (ToEngine s 100) v1 v2 b in
        let heard = at_its_side mb mw s (ToController s 100) v2 v3 d in
        let hears : SideHears s v1.controller (lane_of v2 s) 100 v3.controller (lane_of v3 s) =
        subst (λ (x : Controller). SideHears s x (lane_of v2 s) 100 v3.controller (lane_of v3 s)) fed.0.0 heard.0 in
        let done : RoundDone s c v3.controller (lane_of v3 s) n =
        round_done (policies_at mb mw s).may (lawful_at mb mw law_b law_w s) rules s c (lane_of v s)
        (bare (lane_of v (other s))) n send_is_next (seen_from rules v s h.inv) (h.games s) h.free h.none h.own k here
        v1.controller (lane_of v1 s) sent_now.0 (lane_of v2 s) fed.0.1 v3.controller (lane_of v3 s) hears in
        record {
          inv = keeps v2 (ToController s 100) v3 d (keeps v1 (ToEngine s 100) v2 b (keeps v Act v1 a h.inv));
          none = done.verdict;
          free = done.pending;
          games = λ side. still_games rules c v3.controller done.game h.games side;
          game_is = done.game ∙ h.game_is;
          own = done.ready;
          others =
              stays_ready (side_of c.sides (other s)).up (side_of v3.controller.sides (other s)).up
              (lane_of v (other s)) (lane_of v3 (other s)) m done.others (heard.1 ∙ fed.1 ∙ sent_now.1)
              h.others;
        }

  -- ---- the starts

  -- a side that is up, with its running engine
  up_ready : {P : Type 0} (up : Option EngineRun) (u : EngineRun) (l : Lane P) → up ≡ Some u → IsIdle (Some u)
      → RunsWhereUp (Some u) l.engine → IsReady up l u.confirmed
  up_ready up u l is idle runs =
      let running = some_of l.engine runs in
      record { incarnation = u; is_up = is; idle = idle; confirmed = refl; running = running.0; runs = running.1 }

  left_of : (game : GameRecord) (u : EngineRun) → u.unanswered ≡ []
      → drop u.confirmed (script game) ≡ script_left game (Some u)
  left_of game u idle =
      let number : u.confirmed ≡ u.confirmed + length u.unanswered =
      omega (arith, ap length idle) in ap (λ (n : ℕ). drop n (script game)) number

  -- nothing is to be taken back
  free_of_all : (c : Controller) → c.verdict ≡ None → taking_back c ≡ None → c.pending ≡ None
  free_of_all c none nothing = sym (ap (λ (v : Option Verdict). unless_over v c.pending) none) ∙ nothing

  -- In this world, after that one, a side is up, with its running engine, and this is left of the script for it. The
  -- other side is as it was.
  pub record Begun (old v world : World B W) (s : Colour) : Type 0 where
    pub count : ℕ
    pub inv : IsJoined rules world
    pub none : world.controller.verdict ≡ None
    pub free : world.controller.pending ≡ None
    pub game_is : world.controller.game ≡ old.controller.game
    pub ready : IsReady (side_of world.controller.sides s).up (lane_of world s) count
    pub left : drop count (script old.controller.game)
        ≡ script_left old.controller.game (side_of old.controller.sides s).up
    pub others : (side_of world.controller.sides (other s)).up ≡ (side_of v.controller.sides (other s)).up
    pub others_lane : SameLane (other s) v world

  -- of a side that is in this world as it was in the old one, and is started there where it is down
  module _ (old v : World B W) (s : Colour) (j : IsJoined rules v)
      (none : v.controller.verdict ≡ None) (free : v.controller.pending ≡ None)
      (game_is : v.controller.game ≡ old.controller.game)
      (same : (side_of v.controller.sides s).up ≡ (side_of old.controller.sides s).up) (lane : SameLane s old v)
      (starts : (side_of v.controller.sides s).up ≡ None → next v.controller ≡ Start s) where
    pub started : (v1 : World B W) → (side_of old.controller.sides s).up ≡ None → Happens mb mw v Act v1
        → Begun old v v1 s
    started v1 down a =
        let begun = acted mb mw (Start s) s refl v v1 (starts (same ∙ down)) a in
        let it = begun.0.controller_is in
        record {
          count = 0;
          inv = keeps v Act v1 a j;
          none = ap (λ (d : Controller). d.verdict) it ∙ none;
          free = ap (λ (d : Controller). d.pending) it ∙ free;
          game_is = ap (λ (d : Controller). d.game) it ∙ game_is;
          ready =
              new_ready (side_of v1.controller.sides s).up (lane_of v1 s)
              begun.0.engine
              (ap (λ (d : Controller). (side_of d.sides s).up) it
              ∙ ap (λ (x : SideState). x.up) (at_put s _ v.controller.sides))
              (ap (λ (l : Lane (at_side B W s)). l.engine) begun.0.lane);
          left = sym (ap (script_left old.controller.game) down);
          others =
              ap (λ (d : Controller). (side_of d.sides (other s)).up) it
              ∙ ap (λ (x : SideState). x.up) (other_put s _ v.controller.sides);
          others_lane = begun.1;
        }

    pub was_up : (u : EngineRun) → (side_of old.controller.sides s).up ≡ Some u → IsIdle (Some u)
        → RunsWhereUp (Some u) (lane_of old s).engine → Begun old v v s
    was_up u is idle running = record {
      count = u.confirmed;
      inv = j;
      none = none;
      free = free;
      game_is = game_is;
      ready =
          stays_ready (side_of old.controller.sides s).up (side_of v.controller.sides s).up (lane_of old s)
          (lane_of v s) u.confirmed same lane
          (up_ready (side_of old.controller.sides s).up u (lane_of old s) is idle running);
      left = left_of old.controller.game u idle ∙ sym (ap (script_left old.controller.game) is);
      others = refl;
      others_lane = refl;
    }

  -- both sides have begun
  pub both_begun : (old v v2 : World B W)
      → ((side : Colour) → IsGame (ruled (rule_of rules side) old.controller.game))
      → (one : Begun old old v Black) (two : Begun old v v2 White)
      → Settling old.controller.game v2 Black one.count two.count
  both_begun old v v2 games one two = record {
    inv = two.inv;
    none = two.none;
    free = two.free;
    games = still_games rules old.controller v2.controller two.game_is games;
    game_is = two.game_is;
    own =
        stays_ready v.controller.sides.black.up v2.controller.sides.black.up v.black v2.black one.count two.others
        two.others_lane one.ready;
    others = two.ready;
  }

  -- ---- the end

  ready_in_step : {P : Type 0} (game : GameRecord) (up : Option EngineRun) (l : Lane P)
      → IsReady up l (length (script game)) → engine_in_step game up ≡ true
  ready_in_step game up l h =
      ap (engine_in_step game) h.is_up
      ∙ ap (λ (os : List SentCommand). none_unanswered os && h.incarnation.confirmed == length (script game)) h.idle
      ∙ same h.incarnation.confirmed (length (script game)) h.confirmed
    where
      same : (m n : ℕ) → m ≡ n → (m == n) ≡ true
      same m n e = grind (arith, nat_tests)

  pub settled : (old last : World B W) → Settling old.controller.game last White (length (script old.controller.game))
      (length (script old.controller.game)) → IsSettled old last
  settled old last h = record {
    black_runs = ap is_some h.others.runs;
    white_runs = ap is_some h.own.runs;
    in_step = λ s. elim s as (λ t. in_step last.controller t ≡ true) [
      | Black ↦ side_in_step Black h.others
      | White ↦ side_in_step White h.own
    ];
    record_stays = h.game_is;
  }
    where
      side_in_step : (s : Colour)
          → IsReady (side_of last.controller.sides s).up (lane_of last s) (length (script old.controller.game))
          → in_step last.controller s ≡ true
      side_in_step s ready =
          ap (λ (g : GameRecord). engine_in_step g (side_of last.controller.sides s).up) h.game_is
          ∙ ready_in_step old.controller.game (side_of last.controller.sides s).up (lane_of last s) ready

  -- nothing is going on in the old world, and so each side begins
  module _ (old : World B W) (j : IsJoined rules old) (may : MaySettle rules old) where
    pub nothing_pending : old.controller.pending ≡ None
    nothing_pending = free_of_all old.controller may.verdict may.nothing

    pub black_starts : (side_of old.controller.sides Black).up ≡ None → next old.controller ≡ Start Black
    black_starts down = starts_black old.controller may.verdict nothing_pending (may.idle White) down

    pub white_starts : (v : World B W) → Begun old old v Black → (side_of v.controller.sides White).up ≡ None
        → next v.controller ≡ Start White
    white_starts v one down =
        starts_white v.controller one.ready.incarnation one.none one.free one.ready.is_up one.ready.idle down
