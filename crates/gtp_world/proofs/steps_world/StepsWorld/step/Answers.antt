use Rattle.std.proofs.Common.{◌≡◌, Some, sym, ◌∙◌, ap, subst}
use Rattle.go_base.specs.declared.colours.Colour.{Colour}
use Rattle.go_base.specs.declared.colours.Colour.TheVariants.{Black, White}
use Rattle.gtp_world.specs.World.{side_of_any}
use Rattle.gtp_world.specs.Worlds.{made_world}
use Rattle.gtp_world.specs.StepsWorlds.{RuledWorld, RuledHappens, event_of}
use Rattle.gtp_world.proofs.joined.ReachedLemmas.{reached_more, black_happens, white_happens}
use Rattle.gtp_world.proofs.ruled.RuledLemmas.{has_steps_room, call_room}
use Rattle.gtp_world.proofs.steps_world.StepsWorld.step.Goals as goal

pub apply-requires-clause-room : goal.apply-requires-clause-room
apply-requires-clause-room c =
    has_steps_room (made_world c.self.inside.controller c.self.inside.black c.self.inside.white) c.self.invariant Black

pub apply-requires-in-Some-White-clause-room : goal.apply-requires-in-Some-White-clause-room
apply-requires-in-Some-White-clause-room c =
    has_steps_room (made_world c.self.inside.controller c.self.inside.black c.self.inside.white) c.self.invariant White

pub apply-requires-clause-calls : goal.apply-requires-clause-calls
apply-requires-clause-calls c =
    call_room (made_world c.self.inside.controller c.self.inside.black c.self.inside.white) c.self.invariant Black

pub apply-requires-in-Some-White-clause-calls : goal.apply-requires-in-Some-White-clause-calls
apply-requires-in-Some-White-clause-calls c =
    call_room (made_world c.self.inside.controller c.self.inside.black c.self.inside.white) c.self.invariant White

pub invariant_of-self : goal.invariant_of-self
invariant_of-self c =
    let side : side_of_any c.self.inside.controller (event_of c.args.event.now) ≡ Some Black =
    sym c.side_of_steps.ensures ∙ c.in-Some-Black.is ∙ ap (λ (s : Colour). Some s) c.in-Some-Black.field-0-is in
    reached_more _ _ _ _ c.args.event.now _ c.self.invariant
    (black_happens _ _ _ c.self.inside.controller c.self.inside.black c.self.inside.white c.args.event.now
    c.apply.new.played c.apply.new.self side c.apply.ensures)

pub invariant_of-self-in-Some-White : goal.invariant_of-self-in-Some-White
invariant_of-self-in-Some-White c =
    let side : side_of_any c.self.inside.controller (event_of c.args.event.now) ≡ Some White =
    sym c.side_of_steps.ensures ∙ c.in-Some-White.is ∙ ap (λ (s : Colour). Some s) c.in-Some-White.field-0-is in
    reached_more _ _ _ _ c.args.event.now _ c.self.invariant
    (white_happens _ _ _ c.self.inside.controller c.self.inside.black c.self.inside.white c.args.event.now
    c.apply-in-Some-White.new.played c.apply-in-Some-White.new.self side c.apply-in-Some-White.ensures)

pub returns-in-Some-Black : goal.returns-in-Some-Black
returns-in-Some-Black c =
    let side : side_of_any c.self.inside.controller (event_of c.args.event.now) ≡ Some Black =
    sym c.side_of_steps.ensures ∙ c.in-Some-Black.is ∙ ap (λ (s : Colour). Some s) c.in-Some-Black.field-0-is in
    subst (λ (old : RuledWorld). RuledHappens old c.args.event.now
    (made_world c.apply.new.played c.apply.new.self c.self.inside.white)) c.self.view_is
    (black_happens _ _ _ c.self.inside.controller c.self.inside.black c.self.inside.white c.args.event.now
    c.apply.new.played c.apply.new.self side c.apply.ensures)

pub returns-in-Some-White : goal.returns-in-Some-White
returns-in-Some-White c =
    let side : side_of_any c.self.inside.controller (event_of c.args.event.now) ≡ Some White =
    sym c.side_of_steps.ensures ∙ c.in-Some-White.is ∙ ap (λ (s : Colour). Some s) c.in-Some-White.field-0-is in
    subst (λ (old : RuledWorld). RuledHappens old c.args.event.now
    (made_world c.apply-in-Some-White.new.played c.self.inside.black c.apply-in-Some-White.new.self)) c.self.view_is
    (white_happens _ _ _ c.self.inside.controller c.self.inside.black c.self.inside.white c.args.event.now
    c.apply-in-Some-White.new.played c.apply-in-Some-White.new.self side c.apply-in-Some-White.ensures)
