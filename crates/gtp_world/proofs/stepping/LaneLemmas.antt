-- One side of a world of engines of a kind is like a lane of the definition, and what happens there like what happens
-- at that lane.
use Rattle.std.proofs.Common.{◌≡◌, ℕ, List, [], ◌++◌, take, drop, Option, Some, None, refl, ap, sym, ◌∙◌, ◌≤◌}
use Rattle.std.proofs.Common.{subst, append_assoc, length, length-append, arith}
use Rattle.std.proofs.lemmas.List.{append-nil, take-append-drop, take_all, drop_all}
use Rattle.go_base.specs.declared.colours.Colour.{Colour}
use Rattle.gtp_session.specs.declared.events.Wait.TheVariants as wait
use Rattle.gtp_session.specs.Engine.{Engine, Engages}
use Rattle.gtp_match.specs.declared.sides.EngineRun.{EngineRun}
use Rattle.gtp_match.specs.declared.verdicts.Action.{Action}
use Rattle.gtp_match.specs.declared.verdicts.Action.TheVariants.{Start, Send, Wait, Done}
use Rattle.gtp_match.specs.declared.controller.Controller.{Controller}
use Rattle.gtp_match.specs.Controller.{next_text}
use Rattle.gtp_match.specs.Next.{next}
use Rattle.gtp_match.specs.Sides.{side_of}
use Rattle.gtp_world.specs.declared.events.Event.{Event}
use Rattle.gtp_world.specs.declared.events.Event.TheVariants.{Act, BrokenWrite, ToEngine, ToController, Crash, End}
use Rattle.gtp_world.specs.Lane.{LaneOf, Lane, SidePolicies, Does, DoesWhereRunning, crashed_lane}
use Rattle.gtp_world.specs.World.{Starts, Sends, lane_with_next, lane_where_up, HearsWhereUp, FailsWhereUp, EventOrCall}
use Rattle.gtp_world.specs.World.{side_of_event, side_of_any, SideActs, SideBreaksOff, SideHappens, AnyHappens}
use Rattle.gtp_world.specs.Kinds.{Kind, Reads, sessions}
use Rattle.gtp_world.specs.StepsLaws.{IsEngineLike, IsLike}
use Rattle.gtp_world.proofs.settling.IdleLemmas.{empty_left}
use Rattle.gtp_world.proofs.settling.RoundLemmas.{IsOneLine}
use Rattle.gtp_world.proofs.stepping.LikenessLemmas.{IsFollowing, AllMove, Likeness}

-- where an engine of the definition runs, it follows the controller
abbrev pub FollowsWhereRunning : {P : Type 0} → Option (Engine P) → List ℕ → Type 0
FollowsWhereRunning None te = Unit {0}
FollowsWhereRunning (Some x) te = IsFollowing x te

-- where it runs, one line is on its way to it, which asks for no choice
abbrev pub OneLineWhereRunning : {P : Type 0} → Option (Engine P) → List ℕ → Type 0
OneLineWhereRunning None te = Unit {0}
OneLineWhereRunning (Some x) te = IsOneLine x te

module _ {E P : Type 0} {kind : Kind E} {policies : SidePolicies P} (like : Likeness kind policies) where
  abbrev pub LikeAt : Option E → Type 0
  LikeAt None = Unit {0}
  LikeAt (Some e) = like.Like e

  abbrev pub engine_at : (o : Option E) → LikeAt o → Option (Engine P)
  engine_at None sh = None
  engine_at (Some e) sh = Some (like.engine e sh)

  abbrev pub coming_at : (o : Option E) → LikeAt o → List ℕ → List ℕ
  coming_at None sh te = te
  coming_at (Some e) sh te = like.held e sh ++ te

  -- the lane that a side is like
  abbrev pub lane_like : (s : LaneOf E) → LikeAt s.engine → Lane P
  lane_like s sh = record {
    engine = engine_at s.engine sh;
    to_engine = coming_at s.engine sh s.to_engine;
    to_controller = s.to_controller;
  }

  abbrev pub lane_by : (o : Option E) → LikeAt o → List ℕ → List ℕ → Lane P
  lane_by o sh te tc = record { engine = engine_at o sh; to_engine = coming_at o sh te; to_controller = tc }

  abbrev pub side_by : Option E → List ℕ → List ℕ → LaneOf E
  side_by o te tc = record { engine = o; to_engine = te; to_controller = tc }

  -- the new side is like such a lane
  abbrev pub Leads : (Lane P → Type 0) → LaneOf E → Type 0
  Leads Is new = (sh : LikeAt new.engine) × Is (lane_like new sh)

  pub kept : (old new : LaneOf E) → new ≡ old → (sh : LikeAt old.engine) → Leads (λ l. l ≡ lane_like old sh) new
  kept old new e sh = subst (λ (s : LaneOf E). Leads (λ l. l ≡ lane_like old sh) s) (sym e) (sh, refl)

  -- it stays as it was, and so does the controller
  stays : (before after : Controller) (old new : LaneOf E) (sh : LikeAt old.engine) → after ≡ before → new ≡ old
      → Leads (λ l. (after ≡ before) × (l ≡ lane_like old sh)) new
  stays before after old new sh c e = let k = kept old new e sh in (k.0, (c, k.1))

  starts : (side : Colour) (before after : Controller) (new : LaneOf E) → Starts kind side before after new
      → Leads (λ l. Starts (sessions policies) side before after l) new
  starts side before after new h =
      subst (λ (s : LaneOf E). Leads (λ l. Starts (sessions policies) side before after l) s) (sym h.lane)
      (let b = like.begins h.engine h.begins in (
        b.0,
        record {
          controller_is = h.controller_is;
          engine = like.engine h.engine b.0;
          begins = record { policy = b.1; made = b.2; engine_is = b.3 };
          lane = λ i. record {
            engine = Some (like.engine h.engine b.0);
            to_engine = (append-nil (like.held h.engine b.0) ∙ b.4) i;
            to_controller = [];
          };
        },
      ))

  with_next : (before : Controller) (side : Colour) (up : Option EngineRun) (o : Option E) (te tc : List ℕ)
      (sh : LikeAt o)
      → Leads (λ l. l ≡ lane_with_next before side up (lane_by o sh te tc))
      (lane_with_next before side up (side_by o te tc))
  with_next before side None o te tc sh = (sh, refl)
  with_next before side (Some u) None te tc sh = (sh, refl)
  with_next before side (Some u) (Some e) te tc sh = (
    sh,
    λ i. record {
      engine = Some (like.engine e sh);
      to_engine = sym (append_assoc (like.held e sh) te (next_text before side u)) i;
      to_controller = tc;
    },
  )

  sends : (side : Colour) (before after : Controller) (old new : LaneOf E) (sh : LikeAt old.engine)
      → Sends side before old after new → Leads (λ l. Sends side before (lane_like old sh) after l) new
  sends side before after old new sh h =
      subst (λ (s : LaneOf E). Leads (λ l. Sends side before (lane_like old sh) after l) s) (sym h.lane)
      (let n = with_next before side (side_of before.sides side).up old.engine old.to_engine old.to_controller sh in
      (n.0, record { controller_is = h.controller_is; lane = n.1 }))

  -- an engine that moved, as one of the definition by this many bytes
  moved_by : (te tc : List ℕ) (e : E) (sh : like.Like e) (new : LaneOf E) (after : E) (left written : List ℕ) (n : ℕ)
      (sh2 : like.Like after)
      → new ≡ record { engine = Some after; to_engine = left; to_controller = tc ++ written }
      → Engages policies.may (like.engine e sh) (take n (like.held e sh ++ te)) (like.engine after sh2) written
      → like.held after sh2 ++ left ≡ drop n (like.held e sh ++ te)
      → Leads (λ l. DoesWhereRunning (Reads policies.may n) (lane_by (Some e) sh te tc) (Some (like.engine e sh)) l) new
  moved_by te tc e sh new after left written n sh2 lane engages rest =
      subst (λ (s : LaneOf E). Leads (λ l. DoesWhereRunning (Reads policies.may n) (lane_by (Some e) sh te tc)
      (Some (like.engine e sh)) l) s) (sym lane) (
        sh2,
        record {
          after = like.engine after sh2;
          left = like.held after sh2 ++ left;
          written = written;
          done = record { engages = engages; left_is = rest };
          lane = refl;
        },
      )

  -- whatever comes of an engine, some bytes that the engine of the definition reads lead there
  does_by : (does : Does E) → AllMove policies.may like.engine like.held does
      → (o : Option E) (te tc : List ℕ) (sh : LikeAt o) (new : LaneOf E)
      → FollowsWhereRunning (engine_at o sh) (coming_at o sh te) → DoesWhereRunning does (side_by o te tc) o new
      → (n : ℕ)
      × Leads (λ l. DoesWhereRunning (Reads policies.may n) (lane_by o sh te tc) (engine_at o sh) l) new
  does_by does moves None te tc sh new r h = (0, kept (side_by None te tc) new h sh)
  does_by does moves (Some e) te tc sh new r h =
      let m = moves e sh te h.after h.left h.written r h.done in
      (m.0, moved_by te tc e sh new h.after h.left h.written m.0 m.1 h.lane m.2 m.3)

  -- one line that asks for no choice is read whole
  line_read_by : (o : Option E) (te tc : List ℕ) (sh : LikeAt o) (count : ℕ) (new : LaneOf E)
      → FollowsWhereRunning (engine_at o sh) (coming_at o sh te)
      → OneLineWhereRunning (engine_at o sh) (coming_at o sh te)
      → 100 ≤ count → DoesWhereRunning (kind.reads count) (side_by o te tc) o new
      → Leads (λ l. DoesWhereRunning (Reads policies.may count) (lane_by o sh te tc) (engine_at o sh) l) new
  line_read_by None te tc sh count new r one most h = kept (side_by None te tc) new h sh
  line_read_by (Some e) te tc sh count new r one most h =
      let x : Engine P = like.engine e sh in
      let all : List ℕ = like.held e sh ++ te in
      let short : length all ≤ count = omega (arith, one.short, most) in
      let m = like.reads count e sh te h.after h.left h.written r h.done in
      let t = like.takes e sh count te h.after h.left h.written r one short h.done in
      let none : drop m.0 all ≡ [] =
      sym m.3 ∙ ap (λ (z : List ℕ). z ++ h.left) (like.none_held h.after m.1 t.1) ∙ t.0 in
      let whole : take m.0 all ≡ all =
      sym (append-nil (take m.0 all)) ∙ ap (λ (z : List ℕ). take m.0 all ++ z) (sym none) ∙ take-append-drop m.0 all in
      moved_by te tc e sh new h.after h.left h.written count m.1 h.lane
      (subst (λ (z : List ℕ). Engages policies.may x z (like.engine h.after m.1) h.written)
      (whole ∙ sym (take_all count all short)) m.2)
      (m.3 ∙ none ∙ sym (drop_all count all short))

  where_up : (up : Option EngineRun) (o : Option E) (te tc : List ℕ) (sh : LikeAt o)
      → Leads (λ l. l ≡ lane_where_up up (lane_by o sh te tc)) (lane_where_up up (side_by o te tc))
  where_up None o te tc sh = (tt, refl)
  where_up (Some u) o te tc sh = (sh, refl)

  hears : (side : Colour) (before : Controller) (up : Option EngineRun) (old : LaneOf E) (sh : LikeAt old.engine)
      (count : ℕ) (after : Controller) (new : LaneOf E) → HearsWhereUp side before up old count after new
      → Leads (λ l. HearsWhereUp side before up (lane_like old sh) count after l) new
  hears side before None old sh count after new h = stays before after old new sh h.0 h.1
  hears side before (Some u) old sh count after new h =
      subst (λ (s : LaneOf E). Leads (λ l. HearsWhereUp side before (Some u) (lane_like old sh) count after l) s)
      (sym h.lane)
      (let w =
      where_up (side_of after.sides side).up old.engine old.to_engine (drop count old.to_controller) sh in
      (w.0, record { fault = h.fault; hears = h.hears; lane = w.1 }))

  fails : (side : Colour) (before : Controller) (up : Option EngineRun) (old : LaneOf E) (sh : LikeAt old.engine)
      (after : Controller) (new : LaneOf E) → FailsWhereUp side before up old after new
      → Leads (λ l. FailsWhereUp side before up (lane_like old sh) after l) new
  fails side before None old sh after new h = stays before after old new sh h.0 h.1
  fails side before (Some u) old sh after new h =
      subst (λ (s : LaneOf E). Leads (λ l. FailsWhereUp side before (Some u) (lane_like old sh) after l) s) (sym h.1)
      (tt, (h.0, refl))

  crash_by : (o : Option E) (te tc : List ℕ) (sh : LikeAt o) (count : ℕ)
      → Leads (λ l. l ≡ crashed_lane (lane_by o sh te tc) count) (crashed_lane (side_by o te tc) count)
  crash_by None te tc sh count = (sh, refl)
  crash_by (Some e) te tc sh count = (tt, refl)

  crashes : (old new : LaneOf E) (sh : LikeAt old.engine) (count : ℕ) → new ≡ crashed_lane old count
      → Leads (λ l. l ≡ crashed_lane (lane_like old sh) count) new
  crashes old new sh count e =
      subst (λ (s : LaneOf E). Leads (λ l. l ≡ crashed_lane (lane_like old sh) count) s) (sym e)
      (crash_by old.engine old.to_engine old.to_controller sh count)

  -- ---- one event at its side

  module _ (side : Colour) (before after : Controller) (old new : LaneOf E) (sh : LikeAt old.engine) where
    acts : (a : Action) → SideActs kind side a before old after new
        → Leads (λ l. SideActs (sessions policies) side a before (lane_like old sh) after l) new
    acts (Start own) h = starts side before after new h
    acts (Send own) h = sends side before after old new sh h
    acts (Wait own) h = stays before after old new sh h.0 h.1
    acts (Done verdict) h = stays before after old new sh h.0 h.1

    breaks : (a : Action) → SideBreaksOff kind side a before old after new
        → Leads (λ l. SideBreaksOff (sessions policies) side a before (lane_like old sh) after l) new
    breaks (Send own) h =
        subst (λ (s : LaneOf E).
        Leads (λ l. SideBreaksOff (sessions policies) side (Send own) before (lane_like old sh) after l) s) (sym h.1)
        (tt, (h.0, refl))
    breaks (Start own) h = stays before after old new sh h.0 h.1
    breaks (Wait own) h = stays before after old new sh h.0 h.1
    breaks (Done verdict) h = stays before after old new sh h.0 h.1

    -- An event but that of bytes to an engine leads to where the same event of the definition leads.
    pub same_event : (e : Event) → ((own : Colour) (count : ℕ) → e ≡ ToEngine own count → ⊥)
        → SideHappens kind side e before old after new
        → Leads (λ l. SideHappens (sessions policies) side e before (lane_like old sh) after l) new
    same_event Act other h = acts (next before) h
    same_event (BrokenWrite count) other h = breaks (next before) h
    same_event (ToEngine own count) other h = absurd (other own count refl)
    same_event (ToController own count) other h =
        hears side before (side_of before.sides side).up old sh count after new h
    same_event (Crash own count) other h = let l = crashes old new sh count h.1 in (l.0, (h.0, l.1))
    same_event (End own) other h = fails side before (side_of before.sides side).up old sh after new h

    -- a delivery of one line that asks for no choice leads to where the same delivery of the definition leads
    pub line_delivered : (own : Colour)
        → FollowsWhereRunning (engine_at old.engine sh) (coming_at old.engine sh old.to_engine)
        → OneLineWhereRunning (engine_at old.engine sh) (coming_at old.engine sh old.to_engine)
        → SideHappens kind side (ToEngine own 100) before old after new
        → Leads (λ l. SideHappens (sessions policies) side (ToEngine own 100) before (lane_like old sh) after l) new
    line_delivered own r one h =
        let l = line_read_by old.engine old.to_engine old.to_controller sh 100 new r one (omega arith) h.1 in
        (l.0, (h.0, l.1))

    -- An event leads to where some event of the definition at the same side leads.
    abbrev pub SomeEvent : EventOrCall → Type 0
    SomeEvent e = (defined : Event) × (side_of_event before defined ≡ side_of_any before e)
        × Leads (λ l. SideHappens (sessions policies) side defined before (lane_like old sh) after l) new

    pub some_event : (e : EventOrCall)
        → FollowsWhereRunning (engine_at old.engine sh) (coming_at old.engine sh old.to_engine)
        → AnyHappens kind side e before old after new → SomeEvent e
    some_event (EventOrCall.happens Act) r h = (Act, refl, same_event Act (λ own count e. cc) h)
    some_event (EventOrCall.happens (BrokenWrite count)) r h =
        (BrokenWrite count, refl, same_event (BrokenWrite count) (λ own count e. cc) h)
    some_event (EventOrCall.happens (ToEngine own count)) r h =
        let l =
        does_by (kind.reads count) (like.reads count) old.engine old.to_engine old.to_controller sh new r h.1 in
        (ToEngine own l.0, refl, (l.1.0, (h.0, l.1.1)))
    some_event (EventOrCall.happens (ToController own count)) r h =
        (ToController own count, refl, same_event (ToController own count) (λ own count e. cc) h)
    some_event (EventOrCall.happens (Crash own count)) r h =
        (Crash own count, refl, same_event (Crash own count) (λ own count e. cc) h)
    some_event (EventOrCall.happens (End own)) r h = (End own, refl, same_event (End own) (λ own count e. cc) h)
    some_event (EventOrCall.calls own call) r h =
        let l =
        does_by (kind.calls call) (like.calls call) old.engine old.to_engine old.to_controller sh new r h.1 in
        (ToEngine own l.0, refl, (l.1.0, (h.0, l.1.1)))

  -- ---- what is seen of it

  none_held_by : (o : Option E) (sh : LikeAt o)
      → ((e : E) → o ≡ Some e → kind.wait e ≡ wait.Nothing) → (te : List ℕ) → coming_at o sh te ≡ te
  none_held_by None sh waits te = refl
  none_held_by (Some e) sh waits te = ap (λ (t : List ℕ). t ++ te) (like.none_held e sh (waits e refl))

  engine_like : (e : E) (z : like.Like e) (te : List ℕ) → IsFollowing (like.engine e z) (like.held e z ++ te)
      → IsEngineLike kind e (like.engine e z) (like.held e z)
  engine_like e z te follows =
      record {
        own_unread = like.own_unread e z follows.unread;
        unread = follows.unread;
        waits = λ waits later. like.found e z waits later;
        waits_not = λ waits. (like.none_held e z waits, like.same_rest e z waits);
      }

  engines_like : (e : E) (z : like.Like e) (te : List ℕ) → IsFollowing (like.engine e z) (like.held e z ++ te)
      → (engine : E) (x : Engine P) → Some e ≡ Some engine → Some (like.engine e z) ≡ Some x
      → IsEngineLike kind engine x (like.held e z)
  engines_like e z te follows engine x is is_x =
      let one : e ≡ engine = cc is in
      let other : like.engine e z ≡ x = cc is_x in
      subst (λ (g : E). IsEngineLike kind g x (like.held e z)) one
      (subst (λ (y : Engine P). IsEngineLike kind e y (like.held e z)) other (engine_like e z te follows))

  pub is_like : (s : LaneOf E) (sh : LikeAt s.engine)
      → FollowsWhereRunning (engine_at s.engine sh) (coming_at s.engine sh s.to_engine)
      → IsLike kind s (lane_like s sh)
  is_like s sh follows = by_engine s.engine s.to_engine s.to_controller sh follows
    where
      by_engine : (o : Option E) (te tc : List ℕ) (z : LikeAt o)
          → FollowsWhereRunning (engine_at o z) (coming_at o z te)
          → IsLike kind (side_by o te tc) (lane_by o z te tc)
      by_engine None te tc z r =
          record {
            game = refl;
            to_controller = refl;
            read = [];
            to_engine = refl;
            none_read = λ waits. refl;
            engines = λ engine x is is_x. absurd (cc is);
          }
      by_engine (Some e) te tc z r =
          record {
            game = ap Some (like.game e z);
            to_controller = refl;
            read = like.held e z;
            to_engine = refl;
            none_read = λ waits. like.none_held e z (waits e refl);
            engines = λ engine x is is_x. engines_like e z te r engine x is is_x;
          }

  -- the engine that an engine is like
  pub shown : (o : Option E) (sh : LikeAt o) (te : List ℕ) (e : E) → o ≡ Some e
      → (z : like.Like e) × (engine_at o sh ≡ Some (like.engine e z)) × (coming_at o sh te ≡ like.held e z ++ te)
  shown o sh te e is =
      subst (λ (q : Option E). (y : LikeAt q) → (z : like.Like e) × (engine_at q y ≡ Some (like.engine e z))
      × (coming_at q y te ≡ like.held e z ++ te)) (sym is) (λ z. (z, refl, refl)) sh

  -- where nothing is on its way to that engine, this one waits for nothing
  pub shown_idle : (o : Option E) (sh : LikeAt o) (te : List ℕ) (e : E) → o ≡ Some e
      → FollowsWhereRunning (engine_at o sh) (coming_at o sh te) → coming_at o sh te ≡ [] → kind.wait e ≡ wait.Nothing
  shown_idle o sh te e is follows none =
      let z = shown o sh te e is in
      let r : IsFollowing (like.engine e z.0) (coming_at o sh te) =
      subst (λ (q : Option (Engine P)). FollowsWhereRunning q (coming_at o sh te)) z.1 follows in
      like.idle e z.0 r.unread (empty_left (like.held e z.0) te (sym z.2 ∙ none))

  pub fewer_come : (o : Option E) (sh : LikeAt o) (te : List ℕ) (n : ℕ) → length (coming_at o sh te) ≤ n
      → length te ≤ n
  fewer_come None sh te n h = h
  fewer_come (Some e) sh te n h = omega (arith, h, length-append (like.held e sh) te)
