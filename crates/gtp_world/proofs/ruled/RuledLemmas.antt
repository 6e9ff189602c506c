-- In each world of sans-IO engines that is reached the lists have room.
use Rattle.std.proofs.Common.{◌≡◌, ℕ, ◌+◌, ◌-◌, ◌≤◌, [], ◌∷◌, ◌++◌, length, Option, Some, refl, sym, subst, arith}
use Rattle.std.proofs.Common.{length-append}
use Rattle.go_base.specs.declared.colours.Colour.{Colour}
use Rattle.go_base.specs.declared.colours.Colour.TheVariants.{Black, White}
use Rattle.gtp_wire.specs.Commands.{most_command_bytes}
use Rattle.gtp_session.proofs.choosing.Policies.{AllowsLawful}
use Rattle.gtp_match.specs.declared.verdicts.Action.TheVariants.{Send}
use Rattle.gtp_match.specs.Next.{next}
use Rattle.gtp_match.specs.Setup.{SetupRecord}
use Rattle.gtp_world.specs.declared.events.Event.TheVariants.{ToEngine}
use Rattle.gtp_world.specs.Kinds.{Kind, Call, FeedsFront, CallsOnly, in_steps}
use Rattle.gtp_world.specs.Laws.{rules_of}
use Rattle.gtp_world.specs.Lane.{LaneOf, SidePolicies, Does, EngineDoes, DoesWhereRunning, LaneDoes}
use Rattle.gtp_world.specs.World.{WorldOf, World, EventOrCall, side_of_any, AnyHappens, HappensAt, HappensBy, RunsBy, as_any}
use Rattle.gtp_world.specs.World.{most_to_engine}
use Rattle.gtp_world.specs.StepsLaws.{StepsAgree}
use Rattle.gtp_world.specs.StepsWorlds.{event_of, RuledWorld, RuledReached, side_lane}
use Rattle.gtp_world.specs.private.Room.{WritesWithin, HasWrittenRoom, HasCallRoom, HasRoom}
use Rattle.gtp_world.proofs.joined.ReachedLemmas.{has_room}
use Rattle.gtp_world.proofs.stepping.EngineLemmas.{lawful_any, steps_like}
use Rattle.gtp_world.proofs.stepping.LaneLemmas.{fewer_come}
use Rattle.gtp_world.proofs.stepping.LikenessLemmas.{Likeness}
use Rattle.gtp_world.proofs.stepping.WorldLemmas.{world_like, IsReached, runs_reach, all_reached, reached_agrees}

-- ---- of engines of any kinds

module _ {B W P Q : Type 0} {black : Kind B} {white : Kind W} {mb : SidePolicies P} {mw : SidePolicies Q}
    (like_b : Likeness black mb) (like_w : Likeness white mw) (law_b : AllowsLawful mb.may)
    (law_w : AllowsLawful mw.may) (setup : SetupRecord) (w : WorldOf B W)
    (x : IsReached like_b like_w law_b law_w setup w) where
  -- after one event more
  agrees_after : (e : EventOrCall) (w2 : WorldOf B W) → HappensBy black white w e w2 → StepsAgree black white w2
  agrees_after e w2 h =
      let runs : RunsBy black white as_any w (e ∷ []) w2 = RunsBy.then_ h RunsBy.done in
      reached_agrees like_b like_w law_b law_w setup w2
      (runs_reach like_b like_w law_b law_w as_any setup w (e ∷ []) w2 runs x)

  -- whatever comes of an engine at an event has room
  pub black_room : (does : Does B) (e : EventOrCall) → side_of_any w.controller e ≡ Some Black
      → ((new : LaneOf B) → LaneDoes does w.black new → AnyHappens black Black e w.controller w.black w.controller new)
      → HasWrittenRoom does w.black
  black_room does e at happens engine is after left written h =
      let new : LaneOf B =
      record { engine = Some after; to_engine = left; to_controller = w.black.to_controller ++ written } in
      let done : EngineDoes does w.black engine new =
      record { after = after; left = left; written = written; done = h; lane = refl } in
      let lane_does : LaneDoes does w.black new =
      subst (λ (o : Option B). DoesWhereRunning does w.black o new) (sym is) done in
      let w2 : WorldOf B W = record w { black = new } in
      let step : HappensBy black white w e w2 =
      subst (λ (o : Option Colour). HappensAt black white o w e w2) (sym at) (happens new lane_does, refl) in
      omega (arith, ((agrees_after e w2 step).room Black).1, length-append w.black.to_controller written)

  pub white_room : (does : Does W) (e : EventOrCall) → side_of_any w.controller e ≡ Some White
      → ((new : LaneOf W) → LaneDoes does w.white new → AnyHappens white White e w.controller w.white w.controller new)
      → HasWrittenRoom does w.white
  white_room does e at happens engine is after left written h =
      let new : LaneOf W =
      record { engine = Some after; to_engine = left; to_controller = w.white.to_controller ++ written } in
      let done : EngineDoes does w.white engine new =
      record { after = after; left = left; written = written; done = h; lane = refl } in
      let lane_does : LaneDoes does w.white new =
      subst (λ (o : Option W). DoesWhereRunning does w.white o new) (sym is) done in
      let w2 : WorldOf B W = record w { white = new } in
      let step : HappensBy black white w e w2 =
      subst (λ (o : Option Colour). HappensAt black white o w e w2) (sym at) (happens new lane_does, refl) in
      omega (arith, ((agrees_after e w2 step).room White).1, length-append w.white.to_controller written)

  -- what is on its way to a side's engine is the end of what is on its way to the one that it is like
  pub black_command : next w.controller ≡ Send Black → length w.black.to_engine + most_command_bytes ≤ most_to_engine
  black_command sends =
      let at : World P Q = world_like like_b like_w law_b law_w w x.like_black x.like_white in
      let few : length w.black.to_engine ≤ most_to_engine - most_command_bytes =
      fewer_come like_b w.black.engine x.like_black w.black.to_engine (most_to_engine - most_command_bytes)
      (omega (arith, (has_room (rules_of mb mw) at Black x.joined).command sends)) in
      omega (arith, few)

  pub white_command : next w.controller ≡ Send White → length w.white.to_engine + most_command_bytes ≤ most_to_engine
  white_command sends =
      let at : World P Q = world_like like_b like_w law_b law_w w x.like_black x.like_white in
      let few : length w.white.to_engine ≤ most_to_engine - most_command_bytes =
      fewer_come like_w w.white.engine x.like_white w.white.to_engine (most_to_engine - most_command_bytes)
      (omega (arith, (has_room (rules_of mb mw) at White x.joined).command sends)) in
      omega (arith, few)

-- ---- of sans-IO engines

module _ (w : RuledWorld) (r : RuledReached w) where
  is_reached : IsReached (steps_like w.making_black) (steps_like w.making_white) lawful_any lawful_any r.setup w.world
  is_reached =
      all_reached (steps_like w.making_black) (steps_like w.making_white) lawful_any lawful_any event_of r.setup
      r.reached.events w.world r.is_setup r.reached.runs

  pub ruled_agrees : StepsAgree (in_steps w.making_black) (in_steps w.making_white) w.world
  ruled_agrees =
      reached_agrees (steps_like w.making_black) (steps_like w.making_white) lawful_any lawful_any r.setup w.world
      is_reached

  feed_room : (s : Colour) (count : ℕ) → HasWrittenRoom (FeedsFront count) (side_lane w.world s)
  feed_room Black count =
      black_room (steps_like w.making_black) (steps_like w.making_white) lawful_any lawful_any r.setup w.world is_reached
      (FeedsFront count) (EventOrCall.happens (ToEngine Black count)) refl (λ new h. (refl, h))
  feed_room White count =
      white_room (steps_like w.making_black) (steps_like w.making_white) lawful_any lawful_any r.setup w.world is_reached
      (FeedsFront count) (EventOrCall.happens (ToEngine White count)) refl (λ new h. (refl, h))

  pub call_room : (s : Colour) (call : Call) → HasCallRoom (side_lane w.world s) call
  call_room Black call engine after written is h =
      black_room (steps_like w.making_black) (steps_like w.making_white) lawful_any lawful_any r.setup w.world is_reached
      (CallsOnly call) (EventOrCall.calls Black call) refl (λ new h. (refl, h)) engine is after w.world.black.to_engine
      written (h, refl)
  call_room White call engine after written is h =
      white_room (steps_like w.making_black) (steps_like w.making_white) lawful_any lawful_any r.setup w.world is_reached
      (CallsOnly call) (EventOrCall.calls White call) refl (λ new h. (refl, h)) engine is after w.world.white.to_engine
      written (h, refl)

  command_room : (s : Colour) → next w.world.controller ≡ Send s
      → length (side_lane w.world s).to_engine + most_command_bytes ≤ most_to_engine
  command_room Black =
      black_command (steps_like w.making_black) (steps_like w.making_white) lawful_any lawful_any r.setup w.world
      is_reached
  command_room White =
      white_command (steps_like w.making_black) (steps_like w.making_white) lawful_any lawful_any r.setup w.world
      is_reached

  pub has_steps_room : (s : Colour)
      → HasRoom (λ engine count coming out. WritesWithin (FeedsFront count) engine coming out) s w.world.controller
      (side_lane w.world s)
  has_steps_room s = record { reads = feed_room s; command = command_room s }
