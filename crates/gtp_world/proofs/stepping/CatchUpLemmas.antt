-- A world with sans-IO engines catches up as the world of sessions does that it is like.
use Rattle.std.proofs.Common.{◌≡◌, ◌≢◌, ℕ, suc, ◌+◌, ◌<◌, true, false, List, [], ◌∷◌, ◌++◌, length, drop, Option}
use Rattle.std.proofs.Common.{Some, None, slice_get, refl, sym, ◌∙◌, ap, subst, arith}
use Rattle.std.specs.Prelude.{Bool, IsSome}
use Rattle.std.proofs.lemmas.List.{append-nil}
use Rattle.go_base.specs.declared.colours.Colour.{Colour}
use Rattle.go_base.specs.declared.colours.Colour.TheVariants.{Black, White}
use Rattle.go_board.specs.Game.{GameRecord, IsGame}
use Rattle.go_board.specs.declared.rules.KoRule.{KoRule}
use Rattle.gtp_wire.specs.declared.commands.Command.{Command}
use Rattle.gtp_session.proofs.choosing.Policies.{AllowsLawful}
use Rattle.gtp_session.specs.Engine.{Engine}
use Rattle.gtp_match.specs.declared.sides.EngineRun.{EngineRun}
use Rattle.gtp_match.specs.declared.verdicts.Verdict.{Verdict}
use Rattle.gtp_match.specs.Controller.{in_step}
use Rattle.gtp_match.specs.Script.{script}
use Rattle.gtp_match.specs.Setup.{SetupRecord}
use Rattle.gtp_match.specs.Sides.{side_of}
use Rattle.gtp_match.specs.Sound.{IsIdle}
use Rattle.gtp_world.specs.declared.events.Event.{Event}
use Rattle.gtp_world.specs.declared.events.Event.TheVariants.{Act, ToEngine, ToController}
use Rattle.gtp_world.specs.Joined.{rule_of, ruled, EngineBody, BareLane, body, body_of, bare, IsJoinedSide}
use Rattle.gtp_world.specs.Lane.{Lane, SidePolicies}
use Rattle.gtp_world.specs.Laws.{rules_of}
use Rattle.gtp_world.specs.Settle.{start_of, script_left, round, rounds, settle, RunsWhereUp, MaySettle, IsSettled}
use Rattle.gtp_world.specs.Settle.{Settles}
use Rattle.gtp_world.specs.World.{WorldOf, World, at_side, lane_at, lane_of, EventOrCall, kind_at, HappensBy, RunsBy, as_one, as_any}
use Rattle.gtp_world.specs.World.{Happens}
use Rattle.gtp_world.specs.WordLaws.{SettledIsCaughtUp, QuietWorldsCatchUp}
use Rattle.gtp_world.specs.Kinds.{Kind}
use Rattle.gtp_world.specs.StepsLaws.{IsThere, StepsAgree}
use Rattle.gtp_world.specs.StepsSettle.{IsQuiet, IsCaughtUp, rule_at_kind, CatchUp}
use Rattle.gtp_world.specs.StepsSettle.{StepsOpeningsAreQuiet, StepsWaitUnanswered, StepsSettle}
use Rattle.gtp_world.proofs.joined.EventLemmas.{happens_keeps}
use Rattle.gtp_world.proofs.settling.CaughtUpLemmas.{may_settle, opening_quiet}
use Rattle.gtp_world.proofs.settling.SettleLemmas.{MaySend, drop_head, drop_none, Settling, turned, within}
use Rattle.gtp_world.proofs.settling.SettleLemmas.{some_of, one_line_comes}
use Rattle.gtp_world.proofs.settling.SettleLemmas.{round_settles, Begun, started, was_up, both_begun, settled}
use Rattle.gtp_world.proofs.settling.SettleLemmas.{nothing_pending, black_starts, white_starts}
use Rattle.gtp_world.proofs.stepping.LikenessLemmas.{Likeness, sessions_like}
use Rattle.gtp_world.proofs.stepping.LaneLemmas.{LikeAt, engine_at, lane_like, lane_by, OneLineWhereRunning, shown}
use Rattle.gtp_world.proofs.stepping.WorldLemmas.{LikeBlack, LikeWhite, world_like, leads_alike, delivery_leads}
use Rattle.gtp_world.proofs.stepping.WorldLemmas.{IsReached, all_reached, runs_reach, reached_agrees}

module _ {B W P Q : Type 0} {black : Kind B} {white : Kind W} {mb : SidePolicies P} {mw : SidePolicies Q}
    (like_b : Likeness black mb) (like_w : Likeness white mw) (law_b : AllowsLawful mb.may)
    (law_w : AllowsLawful mw.may) where
  abbrev LikeBoth : WorldOf B W → Type 0
  LikeBoth w = LikeBlack like_b like_w law_b law_w w × LikeWhite like_b like_w law_b law_w w

  -- the world of the definition
  abbrev seen : (w : WorldOf B W) → LikeBoth w → World P Q
  seen w x = world_like like_b like_w law_b law_w w x.0 x.1

  -- a world with this, and what the rest of the events lead to
  record Goes (Is : World P Q → Type 0) (later : List Event) (last : WorldOf B W) : Type 0 where
    world : WorldOf B W
    like : LikeBoth world
    is : Is (seen world like)
    rest : RunsBy black white as_one world later last

  -- an event, as one of the definition
  record One (v : World P Q) (e : Event) (w2 : WorldOf B W) : Type 0 where
    like : LikeBoth w2
    happens : Happens mb mw v e (seen w2 like)

  alike : (w w2 : WorldOf B W) (x : LikeBoth w) (e : Event)
      → ((own : Colour) (count : ℕ) → e ≡ ToEngine own count → ⊥)
      → HappensBy black white w (as_one e) w2 → One (seen w x) e w2
  alike w w2 x e other h =
      let l = leads_alike like_b like_w law_b law_w w w2 x.0 x.1 e other h in
      record { like = (l.0, l.1); happens = l.2 }

  -- a round of a side
  steps_round : (game : GameRecord) (k : Command) (w last : WorldOf B W) (x : LikeBoth w) (s : Colour) (n m : ℕ)
      (later : List Event) → Settling mb mw law_b law_w game (seen w x) s n m → MaySend game s m
      → slice_get (script game) n ≡ Some k → n < length (script game)
      → RunsBy black white as_one w (round s ++ later) last
      → Goes (λ v. Settling mb mw law_b law_w game v s (n + 1) m) later last
  steps_round game k w last x s n m later h may scripted less (RunsBy.then_ {mid = w1} a
      (RunsBy.then_ {mid = w2} b (RunsBy.then_ {mid = w3} d rest))) =
      let v : World P Q = seen w x in
      let one : One v Act w1 = alike w w1 x Act (λ own count e. cc) a in
      let v1 : World P Q = seen w1 one.like in
      let line = one_line_comes mb mw law_b law_w game k v v1 s n m h may scripted less one.happens in
      let comes : OneLineWhereRunning (lane_of v1 s).engine (lane_of v1 s).to_engine =
      subst (λ (o : Option (Engine (at_side P Q s))). OneLineWhereRunning o (lane_of v1 s).to_engine) (sym line.0)
      line.1 in
      let l =
      delivery_leads like_b like_w law_b law_w w1 w2 one.like.0 one.like.1 s
      (happens_keeps mb mw law_b law_w v Act v1 one.happens h.inv) comes b in
      let like2 : LikeBoth w2 = (l.0, l.1) in
      let three : One (seen w2 like2) (ToController s 100) w3 =
      alike w2 w3 like2 (ToController s 100) (λ own count e. cc) d in
      record {
        world = w3;
        like = three.like;
        is =
            round_settles mb mw law_b law_w game k v v1 s n m h may scripted less one.happens (seen w2 like2)
            (seen w3 three.like) l.2 three.happens;
        rest = rest;
      }

  steps_rounds : (game : GameRecord) (left : List Command) (w last : WorldOf B W) (x : LikeBoth w) (s : Colour)
      (n m : ℕ) (later : List Event) → Settling mb mw law_b law_w game (seen w x) s n m → MaySend game s m
      → drop n (script game) ≡ left → RunsBy black white as_one w (rounds s left ++ later) last
      → Goes (λ v. Settling mb mw law_b law_w game v s (length (script game)) m) later last
  steps_rounds game [] w last x s n m later h may e runs =
      let count : n ≡ length (script game) =
      omega (arith, within mb mw law_b law_w game (seen w x) s n m h, drop_none (script game) n e) in
      record {
        world = w;
        like = x;
        is = subst (λ (z : ℕ). Settling mb mw law_b law_w game (seen w x) s z m) count h;
        rest = runs;
      }
  steps_rounds game (k ∷ left) w last x s n m later h may e runs =
      let head = drop_head (script game) n k left e in
      let one : Goes (λ v. Settling mb mw law_b law_w game v s (n + 1) m) (rounds s left ++ later) last =
      steps_round game k w last x s n m (rounds s left ++ later) h may head.0 head.2 runs in
      let number : n + 1 ≡ suc n = omega arith in
      steps_rounds game left one.world last one.like s (n + 1) m later one.is may
      (ap (λ (z : ℕ). drop z (script game)) number ∙ head.1) one.rest

  runs_none : (w last : WorldOf B W) → RunsBy black white as_one w [] last → last ≡ w
  runs_none w last RunsBy.done = refl

  -- a side is started where it is down
  begins : (w last : WorldOf B W) (x : LikeBoth w) (later : List Event) (old : World P Q) (s : Colour)
      (up : Option EngineRun)
      → ((v1 : World P Q) → up ≡ None → Happens mb mw (seen w x) Act v1
      → Begun mb mw law_b law_w old (seen w x) v1 s)
      → ((u : EngineRun) → up ≡ Some u → Begun mb mw law_b law_w old (seen w x) (seen w x) s)
      → RunsBy black white as_one w (start_of up ++ later) last
      → Goes (λ v. Begun mb mw law_b law_w old (seen w x) v s) later last
  begins w last x later old s None starts continues (RunsBy.then_ {mid = w1} a rest) =
      let one : One (seen w x) Act w1 = alike w w1 x Act (λ own count e. cc) a in
      record { world = w1; like = one.like; is = starts (seen w1 one.like) refl one.happens; rest = rest }
  begins w last x later old s (Some u) starts continues rest =
      record { world = w; like = x; is = continues u refl; rest = rest }

  -- ---- from a reached world in which nothing is going on

  some_runs : {E R : Type 0} {kind : Kind E} {policies : SidePolicies R} (like : Likeness kind policies) (o : Option E)
      (sh : LikeAt like o) → IsSome (engine_at like o sh) → (e : E) × (o ≡ Some e)
  some_runs like None sh some = absurd (cc some)
  some_runs like (Some e) sh some = (e, refl)

  -- the ko rules are those of the definition's engines
  rule_is : (side : Colour) → rule_at_kind black white side ≡ rule_of (rules_of mb mw) side
  rule_is Black = like_b.rule
  rule_is White = like_w.rule

  -- nothing is going on in the world of the definition either
  seen_quiet : (w : WorldOf B W) (x : LikeBoth w) → IsQuiet (rule_at_kind black white) w
      → IsQuiet (rule_of (rules_of mb mw)) (seen w x)
  seen_quiet w x quiet = record {
    not_done = quiet.not_done;
    running = λ side run up. running side (quiet.running side run up);
    answered = quiet.answered;
    none_taken_back = quiet.none_taken_back;
    games = λ side. subst (λ (r : KoRule). IsGame (ruled r w.controller.game)) (rule_is side) (quiet.games side);
  }
    where
      running : (side : Colour) → (engine : at_side B W side) × ((lane_at w side).engine ≡ Some engine)
          → (engine : at_side (Engine P) (Engine Q) side) × ((lane_at (seen w x) side).engine ≡ Some engine)
      running Black h =
          let z = shown like_b w.black.engine x.0 w.black.to_engine h.0 h.1 in (like_b.engine h.0 z.0, z.1)
      running White h =
          let z = shown like_w w.white.engine x.1 w.white.to_engine h.0 h.1 in (like_w.engine h.0 z.0, z.1)

  -- where both engines run and both sides are in step, both have caught up
  pub both_caught_up : (old new : WorldOf B W) → StepsAgree black white new
      → ((side : Colour) → (engine : at_side B W side) × ((lane_at new side).engine ≡ Some engine))
      → ((side : Colour) → in_step new.controller side ≡ true) → new.controller.game ≡ old.controller.game
      → (side : Colour) → IsCaughtUp side (kind_at black white side) old new
  both_caught_up old new agree runs in_step same side =
      let it = runs side in
      record {
        in_step = in_step side;
        engine = it.0;
        runs = it.1;
        there =
            subst (λ (g : GameRecord). IsThere (kind_at black white side) g it.0) same
            (agree.there side it.0 it.1 (in_step side));
        controller = same;
      }

  module _ (setup : SetupRecord) (old last : WorldOf B W)
      (s : IsReached like_b like_w law_b law_w setup old)
      (may : MaySettle (rules_of mb mw) (seen old (s.like_black, s.like_white)))
      (more : RunsBy black white as_one old (settle old.controller) last) where
    abbrev v : World P Q
    v = seen old (s.like_black, s.like_white)

    abbrev game : GameRecord
    game = old.controller.game

    abbrev black_left : List Command
    black_left = script_left game old.controller.sides.black.up

    abbrev white_left : List Command
    white_left = script_left game old.controller.sides.white.up

    idle_up : (side : Colour) (u : EngineRun) → (side_of old.controller.sides side).up ≡ Some u → IsIdle (Some u)
    idle_up side u up = subst IsIdle up (may.idle side)

    one : Goes (λ w. Begun mb mw law_b law_w v v w Black)
        (start_of old.controller.sides.white.up ++ (rounds Black black_left ++ rounds White white_left)) last
    one =
        let free = nothing_pending mb mw law_b law_w v s.joined may in
        let first = black_starts mb mw law_b law_w v s.joined may in
        begins old last (s.like_black, s.like_white)
        (start_of old.controller.sides.white.up ++ (rounds Black black_left ++ rounds White white_left)) v Black
        old.controller.sides.black.up
        (λ v1 down a. started mb mw law_b law_w v v Black s.joined may.verdict free refl refl refl first v1 down a)
        (λ u up. was_up mb mw law_b law_w v v Black s.joined may.verdict free refl refl refl first u up
        (idle_up Black u up) (subst (λ (o : Option EngineRun). RunsWhereUp o v.black.engine) up may.black)) more

    abbrev v1 : World P Q
    v1 = seen one.world one.like

    two : Goes (λ w. Begun mb mw law_b law_w v v1 w White) (rounds Black black_left ++ rounds White white_left) last
    two =
        let h = one.is in
        let first = white_starts mb mw law_b law_w v s.joined may v1 h in
        begins one.world last one.like (rounds Black black_left ++ rounds White white_left) v White
        old.controller.sides.white.up
        (λ w down a. started mb mw law_b law_w v v1 White h.inv h.none h.free h.game_is h.others h.others_lane first w
        down a)
        (λ u up. was_up mb mw law_b law_w v v1 White h.inv h.none h.free h.game_is h.others h.others_lane first u up
        (idle_up White u up) (subst (λ (o : Option EngineRun). RunsWhereUp o v.white.engine) up may.white)) one.rest

    abbrev all : ℕ
    all = length (script game)

    three : Goes (λ w. Settling mb mw law_b law_w game w Black all two.is.count) (rounds White white_left) last
    three =
        steps_rounds game black_left two.world last two.like Black one.is.count two.is.count (rounds White white_left)
        (both_begun mb mw law_b law_w v v1 (seen two.world two.like) may.games one.is two.is) tt one.is.left two.rest

    four : Goes (λ w. Settling mb mw law_b law_w game w White all all) [] last
    four =
        steps_rounds game white_left three.world last three.like White two.is.count all []
        (turned mb mw law_b law_w game (seen three.world three.like) all two.is.count three.is) (omega arith)
        two.is.left
        (subst (λ (es : List Event). RunsBy black white as_one three.world es last)
        (sym (append-nil (rounds White white_left))) three.rest)

    seen_settled : (y : LikeBoth last) × IsSettled v (seen last y)
    seen_settled =
        subst (λ (w : WorldOf B W). (y : LikeBoth w) × IsSettled v (seen w y))
        (sym (runs_none four.world last four.rest))
        (four.like, settled mb mw law_b law_w v (seen four.world four.like) four.is)

    caught_up : (side : Colour) → IsCaughtUp side (kind_at black white side) old last
    caught_up =
        both_caught_up old last (reached_agrees like_b like_w law_b law_w setup last
        (runs_reach like_b like_w law_b law_w as_one setup old (settle old.controller) last more s)) runs
        seen_settled.1.in_step seen_settled.1.record_stays
      where
        runs : (side : Colour) → (engine : at_side B W side) × ((lane_at last side).engine ≡ Some engine)
        runs Black = some_runs like_b last.black.engine seen_settled.0.0 seen_settled.1.black_runs
        runs White = some_runs like_w last.white.engine seen_settled.0.1 seen_settled.1.white_runs

  pub catches_up : {A : Type 0} (as_event : A → EventOrCall) → CatchUp black white as_event
  catches_up as_event setup events old new side is runs quiet more =
      let s = all_reached like_b like_w law_b law_w as_event setup events old is runs in
      let like : LikeBoth old = (s.like_black, s.like_white) in
      caught_up setup old new s (may_settle (rules_of mb mw) (seen old like) (seen_quiet old like quiet)) more side

  -- ---- the opening, and engines that wait

  openings_quiet : StepsOpeningsAreQuiet black white
  openings_quiet = opening_quiet (rule_at_kind black white)

  up_where_running : (game : GameRecord) (verdict : Option Verdict) (up : Option EngineRun) (b : EngineBody)
      (l : BareLane) → IsJoinedSide game verdict up l → l.engine ≡ Some b → (run : EngineRun) × (up ≡ Some run)
  up_where_running game None None b l h runs =
      absurd (let bad : None ≡ Some b = sym (ap (λ (x : BareLane). x.engine) h) ∙ runs in cc bad)
  up_where_running game (Some verdict) None b l h runs =
      absurd (let bad : None ≡ Some b = sym (ap (λ (x : BareLane). x.engine) h) ∙ runs in cc bad)
  up_where_running game verdict (Some run) b l h runs = (run, refl)

  not_true : (b : Bool) → (b ≡ true → ⊥) → b ≡ false
  not_true true n = absurd (n refl)
  not_true false n = refl

  waits_unanswered : StepsWaitUnanswered black white
  waits_unanswered setup events w side engine is runs engine_is waits =
      let unanswered : up.0.unanswered ≢ [] = λ e. waits (agree.answered side engine up.0 engine_is up.1 e) in
      record {
        run = up.0;
        up = up.1;
        unanswered = unanswered;
        not_in_step =
            not_true (in_step w.controller side) (λ step. waits (agree.there side engine engine_is step).waits_not);
        not_quiet = λ quiet. unanswered (quiet.answered side up.0 up.1);
      }
    where
      s : IsReached like_b like_w law_b law_w setup w
      s = all_reached like_b like_w law_b law_w as_any setup events w is runs

      agree : StepsAgree black white w
      agree = reached_agrees like_b like_w law_b law_w setup w s

      v2 : World P Q
      v2 = seen w (s.like_black, s.like_white)

      side_up : (side : Colour) (engine : at_side B W side) → (lane_at w side).engine ≡ Some engine
          → (run : EngineRun) × ((side_of w.controller.sides side).up ≡ Some run)
      side_up Black e is =
          let z = shown like_b w.black.engine s.like_black w.black.to_engine e is in
          up_where_running (ruled (rule_of (rules_of mb mw) Black) w.controller.game) w.controller.verdict
          w.controller.sides.black.up (body (like_b.engine e z.0)) (bare v2.black) s.joined.mine.joined (ap body_of z.1)
      side_up White e is =
          let z = shown like_w w.white.engine s.like_white w.white.to_engine e is in
          up_where_running (ruled (rule_of (rules_of mb mw) White) w.controller.game) w.controller.verdict
          w.controller.sides.white.up (body (like_w.engine e z.0)) (bare v2.white) s.joined.theirs.joined
          (ap body_of z.1)

      up : (run : EngineRun) × ((side_of w.controller.sides side).up ≡ Some run)
      up = side_up side engine engine_is

  pub settles_in_steps : StepsSettle black white
  settles_in_steps = record { openings = openings_quiet; quiet = catches_up as_any; waits = waits_unanswered }

-- ---- worlds of sessions, which are like themselves

lane_seen : {P : Type 0} (policies : SidePolicies P) (l : Lane P) (sh : LikeAt (sessions_like policies) l.engine)
    → lane_like (sessions_like policies) l sh ≡ l
unfolding sessions_like
lane_seen {P} policies l sh = by_engine l.engine sh
  where
    by_engine : (o : Option (Engine P)) (x : LikeAt (sessions_like policies) o)
        → lane_by (sessions_like policies) o x l.to_engine l.to_controller
        ≡ record { engine = o; to_engine = l.to_engine; to_controller = l.to_controller }
    by_engine None x = refl
    by_engine (Some e) x = refl

module _ {B W : Type 0} (mb : SidePolicies B) (mw : SidePolicies W) (law_b : AllowsLawful mb.may)
    (law_w : AllowsLawful mw.may) where
  -- both sides of a world, as like themselves
  abbrev LikeItself : World B W → Type 0
  LikeItself w = LikeBoth (sessions_like mb) (sessions_like mw) law_b law_w w

  abbrev itself : (w : World B W) → LikeItself w → World B W
  itself w x = seen (sessions_like mb) (sessions_like mw) law_b law_w w x

  is_itself : (w : World B W) (x : LikeItself w) → itself w x ≡ w
  is_itself w x =
      λ i. record {
        controller = w.controller;
        black = lane_seen mb w.black x.0 i;
        white = lane_seen mw w.white x.1 i;
      }

  pub settles : Settles mb mw
  settles setup events old new is runs may more =
      let s = all_reached (sessions_like mb) (sessions_like mw) law_b law_w as_one setup events old is runs in
      let x : LikeItself old = (s.like_black, s.like_white) in
      let here : MaySettle (rules_of mb mw) (itself old x) =
      subst (λ (w : World B W). MaySettle (rules_of mb mw) w) (sym (is_itself old x)) may in
      let it = seen_settled (sessions_like mb) (sessions_like mw) law_b law_w setup old new s here more in
      subst (λ (w : World B W). IsSettled w new) (is_itself old x)
      (subst (λ (w : World B W). IsSettled (itself old x) w) (is_itself new it.0) it.1)

  pub settled_is : SettledIsCaughtUp mb mw
  settled_is setup events old new side is runs settled =
      both_caught_up (sessions_like mb) (sessions_like mw) law_b law_w old new
      (reached_agrees (sessions_like mb) (sessions_like mw) law_b law_w setup new
      (all_reached (sessions_like mb) (sessions_like mw) law_b law_w as_one setup events new is runs)) running
      settled.in_step settled.record_stays side
    where
      running : (side : Colour) → (engine : at_side (Engine B) (Engine W) side)
          × ((lane_at new side).engine ≡ Some engine)
      running Black = some_of new.black.engine settled.black_runs
      running White = some_of new.white.engine settled.white_runs

  pub quiet_catches_up : QuietWorldsCatchUp mb mw
  quiet_catches_up = catches_up (sessions_like mb) (sessions_like mw) law_b law_w as_one
