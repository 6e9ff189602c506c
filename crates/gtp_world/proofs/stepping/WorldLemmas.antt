-- A world with sans-IO engines is like a world of sessions, and each of its events like one of that world.
use Rattle.std.proofs.Common.{◌≡◌, ◌≢◌, ℕ, true, List, [], ◌∷◌, ◌++◌, map, Option, Some, None, refl, ap, sym}
use Rattle.std.proofs.Common.{◌∙◌, ◌≤◌, subst, length}
use Rattle.std.specs.List.{AllByRecursion}
use Rattle.std.proofs.lemmas.List.{append-nil}
use Rattle.go_base.specs.declared.colours.Colour.{Colour}
use Rattle.go_base.specs.declared.colours.Colour.TheVariants.{Black, White}
use Rattle.go_board.specs.Game.{GameRecord}
use Rattle.go_board.specs.declared.rules.KoRule.{KoRule}
use Rattle.gtp_wire.specs.Lines.{lines}
use Rattle.gtp_session.proofs.choosing.Policies.{AllowsLawful}
use Rattle.gtp_session.proofs.stepping.Runs.{controllers_lines}
use Rattle.gtp_session.specs.declared.events.Wait.TheVariants as wait
use Rattle.gtp_session.specs.StepsRuns.{IsTablesLine}
use Rattle.gtp_session.specs.Engine.{Engine}
use Rattle.gtp_match.specs.declared.sides.EngineRun.{EngineRun}
use Rattle.gtp_match.specs.declared.unanswered.SentCommand.{SentCommand}
use Rattle.gtp_match.specs.declared.verdicts.Verdict.{Verdict}
use Rattle.gtp_match.specs.declared.controller.Controller.{Controller}
use Rattle.gtp_match.specs.Controller.{in_step, engine_in_step}
use Rattle.gtp_match.specs.Script.{script}
use Rattle.gtp_match.specs.Setup.{SetupRecord, IsSetup}
use Rattle.gtp_match.specs.Sides.{side_of}
use Rattle.gtp_world.specs.declared.events.Event.{Event}
use Rattle.gtp_world.specs.declared.events.Event.TheVariants.{ToEngine}
use Rattle.gtp_world.specs.Exchange.{sent_line, CanBeWritten, all_sent_bytes, replayed}
use Rattle.gtp_world.specs.Joined.{Rules, rule_of, ruled, EngineBody, BareLane, body, body_of, bare, WillRead, IsFair}
use Rattle.gtp_world.specs.Joined.{WillReadWhereRunning, IsJoinedAtEnd, IsJoinedSide, AreJoined, IsJoined}
use Rattle.gtp_world.specs.Lane.{LaneOf, SidePolicies}
use Rattle.gtp_world.specs.Laws.{rules_of}
use Rattle.gtp_world.specs.World.{WorldOf, World, at_side, lane_at, lane_of, opening, EventOrCall, side_of_event}
use Rattle.gtp_world.specs.World.{side_of_any, SideHappens, kind_at, HappensAt, HappensBy, RunsBy, as_one, as_any}
use Rattle.gtp_world.specs.World.{Happens, Reached, Holds, Agrees, most_to_engine, most_to_controller}
use Rattle.gtp_world.specs.Kinds.{Kind, sessions}
use Rattle.gtp_world.specs.StepsLaws.{IsThere, IsAskedThere, StepsAgree, StepsAlwaysAgree, GoesAlong}
use Rattle.gtp_world.proofs.exchange.ExchangeLemmas.{orders_lines, owes_idle}
use Rattle.gtp_world.proofs.joined.AgreementLemmas.{settled_of, inv_agrees, same_game, step_parts}
use Rattle.gtp_world.proofs.joined.EventLemmas.{opening_has, happens_keeps}
use Rattle.gtp_world.proofs.joined.JoinedLemmas.{flipped}
use Rattle.gtp_world.proofs.joined.ReachedLemmas.{runs_push}
use Rattle.gtp_world.proofs.settling.IdleLemmas.{empty_right}
use Rattle.gtp_world.proofs.stepping.AskedLemmas.{asked_in_turn}
use Rattle.gtp_world.proofs.stepping.LikenessLemmas.{IsFollowing, Likeness}
use Rattle.gtp_world.proofs.stepping.LaneLemmas.{FollowsWhereRunning, LikeAt, engine_at, coming_at, lane_like}
use Rattle.gtp_world.proofs.stepping.LaneLemmas.{Leads, OneLineWhereRunning, kept, some_event, same_event}
use Rattle.gtp_world.proofs.stepping.LaneLemmas.{line_delivered}
use Rattle.gtp_world.proofs.stepping.LaneLemmas.{is_like, shown, shown_idle, fewer_come}

-- ---- what comes to an engine that a controller has started

sent_tables : (os : List SentCommand) → AllByRecursion IsTablesLine (map sent_line os ++ [])
sent_tables [] = tt
sent_tables (o ∷ os) = (controllers_lines (Some o.id) o.command, sent_tables os)

follows_by : {P : Type 0} (x : Engine P) (te : List ℕ) (ahead : GameRecord) (waiting : List SentCommand)
    → AllByRecursion CanBeWritten waiting → WillRead (body x) te ahead waiting → IsFollowing x te
unfolding lines
follows_by x te ahead waiting fit r =
    let all : lines (x.rest ++ te) ≡ map sent_line waiting ++ [] =
    r.rest_reads te ∙ ap lines (r.arriving ∙ sym (append-nil (all_sent_bytes waiting))) ∙ orders_lines waiting [] fit in
    record {
      going = r.going;
      unread = ap lines (sym (append-nil x.rest)) ∙ r.rest_reads [] ∙ ap lines (append-nil r.begun) ∙ r.begun_open;
      tables = subst (AllByRecursion IsTablesLine) (sym all) (sent_tables waiting);
    }

pub follows_where : {P : Type 0} (game : GameRecord) (v : Option Verdict) (up : Option EngineRun)
    (o : Option (Engine P)) (te tc : List ℕ)
    → IsJoinedSide game v up (record { engine = body_of o; to_engine = te; to_controller = tc })
    → FollowsWhereRunning o te
follows_where game v up None te tc h = tt
follows_where game None None (Some x) te tc h =
    absurd (let bad : Some (body x) ≡ None = ap (λ (l : BareLane). l.engine) h in cc bad)
follows_where game (Some v) None (Some x) te tc h =
    absurd (let bad : Some (body x) ≡ None = ap (λ (l : BareLane). l.engine) h in cc bad)
follows_where game v (Some u) (Some x) te tc h =
    let j : IsJoinedAtEnd game u (record { engine = Some (body x); to_engine = te; to_controller = tc }) =
    settled_of game v u (record { engine = Some (body x); to_engine = te; to_controller = tc }) h in
    follows_by x te j.ahead j.waiting j.fit j.runs

-- where a side has answered all that it was sent, nothing is on its way to its engine
nothing_comes : (game : GameRecord) (v : Option Verdict) (up : Option EngineRun) (u : EngineRun) (b : EngineBody)
    (l : BareLane) → up ≡ Some u → IsJoinedSide game v up l → u.unanswered ≡ [] → l.engine ≡ Some b → l.to_engine ≡ []
nothing_comes game v up u b l up_is h idle runs =
    let settled : IsJoinedAtEnd game u l =
    settled_of game v u l (subst (λ (x : Option EngineRun). IsJoinedSide game v x l) up_is h) in
    let reading : WillRead b l.to_engine settled.ahead settled.waiting =
    subst (λ (x : Option EngineBody). WillReadWhereRunning x l.to_engine settled.ahead settled.waiting) runs
    settled.runs in
    let now =
    owes_idle (replayed game u.confirmed) u.unanswered settled.replies settled.waiting settled.ahead idle
    settled.owes in
    empty_right reading.begun l.to_engine (reading.arriving ∙ ap all_sent_bytes now.0)

-- a side in step has answered all
in_step_idle : (game : GameRecord) (up : Option EngineRun) → engine_in_step game up ≡ true
    → (u : EngineRun) × (up ≡ Some u) × (u.unanswered ≡ [])
in_step_idle game None h = absurd (cc h)
in_step_idle game (Some u) h = (u, refl, (step_parts u.unanswered u.confirmed (length (script game)) h).0)

-- ---- one side

module _ {E P : Type 0} {kind : Kind E} {policies : SidePolicies P} (like : Likeness kind policies) (rules : Rules)
    (c : Controller) (side : Colour) (l : LaneOf E) (lo : BareLane) (sh : LikeAt like l.engine)
    (j : AreJoined rules c side (bare (lane_like like l sh)) lo) where
  pub follows_now : FollowsWhereRunning (engine_at like l.engine sh) (coming_at like l.engine sh l.to_engine)
  follows_now =
      follows_where (ruled (rule_of rules side) c.game) c.verdict (side_of c.sides side).up (engine_at like l.engine sh)
      (coming_at like l.engine sh l.to_engine) l.to_controller j.mine.joined

  pub idle_now : (engine : E) (u : EngineRun) → l.engine ≡ Some engine → (side_of c.sides side).up ≡ Some u
      → u.unanswered ≡ [] → kind.wait engine ≡ wait.Nothing
  idle_now engine u runs up idle =
      let z = shown like l.engine sh l.to_engine engine runs in
      shown_idle like l.engine sh l.to_engine engine runs follows_now
      (nothing_comes (ruled (rule_of rules side) c.game) c.verdict (side_of c.sides side).up u
      (body (like.engine engine z.0)) (bare (lane_like like l sh)) up j.mine.joined idle (ap body_of z.1))

  there_now : kind.rule ≡ rule_of rules side → (engine : E) → l.engine ≡ Some engine → in_step c side ≡ true
      → IsThere kind c.game engine
  there_now rule engine runs step =
      let z = shown like l.engine sh l.to_engine engine runs in
      let idle = in_step_idle c.game (side_of c.sides side).up step in
      record {
        game_is =
            sym (like.game engine z.0)
            ∙ same_game rules c side (bare (lane_like like l sh)) lo (body (like.engine engine z.0)) j step
            (ap body_of z.1)
            ∙ ap (λ (r : KoRule). ruled r c.game) (sym rule);
        waits_not = idle_now engine idle.0 runs idle.1 idle.2;
      }

  asked_now : kind.rule ≡ rule_of rules side → (colour : Colour) (engine : E) → l.engine ≡ Some engine
      → c.verdict ≡ None → kind.wait engine ≡ wait.Choice colour → IsAskedThere kind c side colour engine
  asked_now rule colour engine runs none waits =
      let z = shown like l.engine sh l.to_engine engine runs in
      let x : Engine P = like.engine engine z.0 in
      let asks = like.asks engine z.0 colour waits l.to_engine in
      let it =
      asked_in_turn rules c side (bare (lane_like like l sh)) lo (body x) j none (ap body_of z.1) asks.0 asks.1 colour
      (ap (λ (t : List ℕ). lines (x.rest ++ t)) z.2 ∙ asks.2) asks.3 in
      record {
        own = it.0;
        turn = it.1;
        game_is = sym (like.game engine z.0) ∙ it.2 ∙ ap (λ (r : KoRule). ruled r c.game) (sym rule);
      }

  not_other_now : (engine : E) → l.engine ≡ Some engine → kind.wait engine ≢ wait.Answer
  not_other_now engine runs = like.not_other engine (shown like l.engine sh l.to_engine engine runs).0

-- ---- the world

module _ {B W P Q : Type 0} {black : Kind B} {white : Kind W} {policies_black : SidePolicies P}
    {policies_white : SidePolicies Q} (like_b : Likeness black policies_black) (like_w : Likeness white policies_white)
    (law_b : AllowsLawful policies_black.may) (law_w : AllowsLawful policies_white.may) where
  abbrev pub rules : Rules
  rules = rules_of policies_black policies_white

  abbrev pub LikeBlack : WorldOf B W → Type 0
  LikeBlack w = LikeAt like_b w.black.engine

  abbrev pub LikeWhite : WorldOf B W → Type 0
  LikeWhite w = LikeAt like_w w.white.engine

  -- the world that it is like
  abbrev pub world_like : (w : WorldOf B W) → LikeBlack w → LikeWhite w → World P Q
  world_like w x y =
      record { controller = w.controller; black = lane_like like_b w.black x; white = lane_like like_w w.white y }

  -- an event of the definition leads to a world that the new one is like
  abbrev pub LeadsBy : World P Q → Event → WorldOf B W → Type 0
  LeadsBy v e w2 =
      (x : LikeBlack w2) × (y : LikeWhite w2) × Happens policies_black policies_white v e (world_like w2 x y)

  module _ (w w2 : WorldOf B W) (x : LikeBlack w) (y : LikeWhite w) where
    abbrev pub v : World P Q
    v = world_like w x y

    abbrev HappensHere : Option Colour → Event → World P Q → Type 0
    HappensHere o e new = HappensAt (sessions policies_black) (sessions policies_white) o v (as_one e) new

    -- an event of the definition at one side, and the other side stays
    black_leads : (e : Event) → side_of_event w.controller e ≡ Some Black
        → Leads like_b (λ l. SideHappens (sessions policies_black) Black e w.controller v.black w2.controller l) w2.black
        → w2.white ≡ w.white → LeadsBy v e w2
    black_leads e at l stays =
        let k = kept like_w w.white w2.white stays y in
        let Leading : Option Colour → Type 0 = λ o. HappensHere o e (world_like w2 l.0 k.0) in
        (l.0, k.0, subst Leading (sym at) (l.1, k.1))

    white_leads : (e : Event) → side_of_event w.controller e ≡ Some White
        → Leads like_w (λ l. SideHappens (sessions policies_white) White e w.controller v.white w2.controller l) w2.white
        → w2.black ≡ w.black → LeadsBy v e w2
    white_leads e at l stays =
        let k = kept like_b w.black w2.black stays x in
        let Leading : Option Colour → Type 0 = λ o. HappensHere o e (world_like w2 k.0 l.0) in
        (k.0, l.0, subst Leading (sym at) (l.1, k.1))

    -- where no side is to act, nothing happens
    none_leads : (e : Event) → side_of_event w.controller e ≡ None → w2 ≡ w → LeadsBy v e w2
    none_leads e at h =
        subst (λ (u : WorldOf B W). LeadsBy v e u) (sym h)
        (x, y, subst (λ (o : Option Colour). HappensHere o e v) (sym at) refl)

    black_follows : IsJoined rules v
        → FollowsWhereRunning (engine_at like_b w.black.engine x) (coming_at like_b w.black.engine x w.black.to_engine)
    black_follows j = follows_now like_b rules w.controller Black w.black (bare v.white) x j

    white_follows : IsJoined rules v
        → FollowsWhereRunning (engine_at like_w w.white.engine y) (coming_at like_w w.white.engine y w.white.to_engine)
    white_follows j =
        follows_now like_w rules w.controller White w.white (bare v.black) y
        (flipped rules w.controller Black (bare v.black) (bare v.white) j)

    by_side : (o : Option Colour) (e : EventOrCall) → side_of_any w.controller e ≡ o → IsJoined rules v
        → HappensAt black white o w e w2 → (defined : Event) × LeadsBy v defined w2
    by_side None (EventOrCall.happens e) at j h = (e, none_leads e at h)
    by_side None (EventOrCall.calls side call) at j h = absurd (cc at)
    by_side (Some Black) e at j h =
        let l = some_event like_b Black w.controller w2.controller w.black w2.black x e (black_follows j) h.0 in
        (l.0, black_leads l.0 (l.1 ∙ at) l.2 h.1)
    by_side (Some White) e at j h =
        let l = some_event like_w White w.controller w2.controller w.white w2.white y e (white_follows j) h.0 in
        (l.0, white_leads l.0 (l.1 ∙ at) l.2 h.1)

    same_by_side : (o : Option Colour) (e : Event) → ((own : Colour) (count : ℕ) → e ≡ ToEngine own count → ⊥)
        → side_of_event w.controller e ≡ o → HappensAt black white o w (as_one e) w2 → LeadsBy v e w2
    same_by_side None e other at h = none_leads e at h
    same_by_side (Some Black) e other at h =
        black_leads e at (same_event like_b Black w.controller w2.controller w.black w2.black x e other h.0) h.1
    same_by_side (Some White) e other at h =
        white_leads e at (same_event like_w White w.controller w2.controller w.white w2.white y e other h.0) h.1

    -- an event but that of bytes to an engine leads to where the same event of the definition leads
    pub leads_alike : (e : Event) → ((own : Colour) (count : ℕ) → e ≡ ToEngine own count → ⊥)
        → HappensBy black white w (as_one e) w2 → LeadsBy v e w2
    leads_alike e other h = same_by_side (side_of_event w.controller e) e other refl h

    -- and so does the delivery of one line that asks for no choice
    pub delivery_leads : (side : Colour) → IsJoined rules v
        → OneLineWhereRunning (lane_of v side).engine (lane_of v side).to_engine
        → HappensBy black white w (as_one (ToEngine side 100)) w2 → LeadsBy v (ToEngine side 100) w2
    delivery_leads Black j one h =
        black_leads (ToEngine Black 100) refl
        (line_delivered like_b Black w.controller w2.controller w.black w2.black x Black (black_follows j) one h.0) h.1
    delivery_leads White j one h =
        white_leads (ToEngine White 100) refl
        (line_delivered like_w White w.controller w2.controller w.white w2.white y White (white_follows j) one h.0) h.1

    pub leads : (e : EventOrCall) → IsJoined rules v → HappensBy black white w e w2
        → (defined : Event) × LeadsBy v defined w2
    leads e j h = by_side (side_of_any w.controller e) e refl j h

  -- the world that it is like is joined, and was reached
  pub record IsReached (setup : SetupRecord) (w : WorldOf B W) : Type 0 where
    pub like_black : LikeBlack w
    pub like_white : LikeWhite w
    pub joined : IsJoined rules (world_like w like_black like_white)
    pub reached : Reached policies_black policies_white setup (world_like w like_black like_white)

  pub runs_reach : {A : Type 0} (as_event : A → EventOrCall) (setup : SetupRecord) (w : WorldOf B W) (es : List A)
      (w2 : WorldOf B W) → RunsBy black white as_event w es w2 → IsReached setup w → IsReached setup w2
  runs_reach as_event setup w es w2 RunsBy.done s = s
  runs_reach as_event setup w es w2 (RunsBy.then_ {mid = mid} {event = e} {events = more} h rest) s =
      let n = leads w mid s.like_black s.like_white (as_event e) s.joined h in
      let old : World P Q = world_like w s.like_black s.like_white in
      let new : World P Q = world_like mid n.1.0 n.1.1 in
      runs_reach as_event setup mid more w2 rest (record {
        like_black = n.1.0;
        like_white = n.1.1;
        joined = happens_keeps policies_black policies_white law_b law_w old n.0 new n.1.2 s.joined;
        reached = record {
          events = s.reached.events ++ n.0 ∷ [];
          runs =
              runs_push (sessions policies_black) (sessions policies_white) as_one (opening setup) s.reached.events old
              n.0 new s.reached.runs n.1.2;
        };
      })

  pub all_reached : {A : Type 0} (as_event : A → EventOrCall) (setup : SetupRecord) (es : List A) (w : WorldOf B W)
      → IsSetup setup → RunsBy black white as_event (opening setup) es w → IsReached setup w
  all_reached as_event setup es w is runs =
      runs_reach as_event setup (opening setup) es w runs
      (record {
        like_black = tt;
        like_white = tt;
        joined = opening_has rules setup is;
        reached = record { events = []; runs = RunsBy.done };
      })

  pub goes_along : GoesAlong black white policies_black policies_white
  goes_along setup es w is runs =
      let s = all_reached as_any setup es w is runs in (
        world_like w s.like_black s.like_white,
        s.reached,
        refl,
        is_like like_b w.black s.like_black (black_follows w w s.like_black s.like_white s.joined),
        is_like like_w w.white s.like_white (white_follows w w s.like_black s.like_white s.joined),
      )

  pub reached_agrees : (setup : SetupRecord) (w : WorldOf B W) → IsReached setup w → StepsAgree black white w
  reached_agrees setup w s = record {
    there = there;
    same = same;
    asked = asked;
    answered = answered;
    no_line_of_its_own = not_other;
    room = room;
    fair =
        subst (λ (r : KoRule). IsFair (record { black = r; white = white.rule }) c c.verdict) (sym like_b.rule)
        (subst (λ (r : KoRule). IsFair (record { black = policies_black.rule; white = r }) c c.verdict)
        (sym like_w.rule) s.joined.fair);
  }
    where
      at : World P Q
      at = world_like w s.like_black s.like_white

      c : Controller
      c = w.controller

      all : Agrees at
      all = inv_agrees rules at s.joined

      turned : AreJoined rules c White (bare at.white) (bare at.black)
      turned = flipped rules c Black (bare at.black) (bare at.white) s.joined

      there : (side : Colour) (engine : at_side B W side) → (lane_at w side).engine ≡ Some engine
          → in_step c side ≡ true → IsThere (kind_at black white side) c.game engine
      there Black = there_now like_b rules c Black w.black (bare at.white) s.like_black s.joined like_b.rule
      there White = there_now like_w rules c White w.white (bare at.black) s.like_white turned like_w.rule

      asked : (side colour : Colour) (engine : at_side B W side) → (lane_at w side).engine ≡ Some engine
          → c.verdict ≡ None → (kind_at black white side).wait engine ≡ wait.Choice colour
          → IsAskedThere (kind_at black white side) c side colour engine
      asked Black = asked_now like_b rules c Black w.black (bare at.white) s.like_black s.joined like_b.rule
      asked White = asked_now like_w rules c White w.white (bare at.black) s.like_white turned like_w.rule

      answered : (side : Colour) (engine : at_side B W side) (u : EngineRun)
          → (lane_at w side).engine ≡ Some engine → (side_of c.sides side).up ≡ Some u → u.unanswered ≡ []
          → (kind_at black white side).wait engine ≡ wait.Nothing
      answered Black = idle_now like_b rules c Black w.black (bare at.white) s.like_black s.joined
      answered White = idle_now like_w rules c White w.white (bare at.black) s.like_white turned

      not_other : (side : Colour) (engine : at_side B W side) → (lane_at w side).engine ≡ Some engine
          → (kind_at black white side).wait engine ≢ wait.Answer
      not_other Black = not_other_now like_b rules c Black w.black (bare at.white) s.like_black s.joined
      not_other White = not_other_now like_w rules c White w.white (bare at.black) s.like_white turned

      room : (side : Colour) → (length (lane_at w side).to_engine ≤ most_to_engine)
          × (length (lane_at w side).to_controller ≤ most_to_controller)
      room Black = (
        fewer_come like_b w.black.engine s.like_black w.black.to_engine most_to_engine (all.room Black).0,
        (all.room Black).1,
      )
      room White = (
        fewer_come like_w w.white.engine s.like_white w.white.to_engine most_to_engine (all.room White).0,
        (all.room White).1,
      )

      same : (one : B) (two : W) → w.black.engine ≡ Some one → w.white.engine ≡ Some two
          → in_step c Black ≡ true → in_step c White ≡ true → Holds (black.game one) (white.game two)
      same one two is_one is_two step_black step_white =
          let y = shown like_b w.black.engine s.like_black w.black.to_engine one is_one in
          let z = shown like_w w.white.engine s.like_white w.white.to_engine two is_two in
          let e : Engine P = like_b.engine one y.0 in
          let f : Engine Q = like_w.engine two z.0 in
          let h : Holds e.game f.game = all.same e f y.1 z.1 step_black step_white in
          subst (λ (g : GameRecord). Holds g (white.game two)) (like_b.game one y.0)
          (subst (λ (g : GameRecord). Holds e.game g) (like_w.game two z.0) h)

  pub always_agree : StepsAlwaysAgree black white
  always_agree setup es w is runs = reached_agrees setup w (all_reached as_any setup es w is runs)
