use Rattle.std.proofs.Common.{◌≡◌, Some, sym, ◌∙◌, ap, subst}
use Rattle.go_base.specs.declared.colours.Colour.{Colour}
use Rattle.go_base.specs.declared.colours.Colour.TheVariants.{Black, White}
use Rattle.gtp_world.specs.World.{side_of_event}
use Rattle.gtp_world.specs.Worlds.{made_world, MadeWorld, rules_in, policies_by, MadeHappens}
use Rattle.gtp_world.proofs.joined.ReachedLemmas.{reached_inv, reached_more, has_room, black_happens, white_happens}
use Rattle.gtp_world.proofs.world.World.step.Goals as goal

pub step-requires-clause-room : goal.step-requires-clause-room
step-requires-clause-room g c =
    let w : MadeWorld _ _ _ _ = made_world c.self.inside.controller c.self.inside.black c.self.inside.white in
    has_room (rules_in w) w.world Black (reached_inv _ _ _ _ g.met.B.Made.Policy.lawful g.met.W.Made.Policy.lawful w
    c.self.invariant)

pub step-requires-in-Some-White-clause-room : goal.step-requires-in-Some-White-clause-room
step-requires-in-Some-White-clause-room g c =
    let w : MadeWorld _ _ _ _ = made_world c.self.inside.controller c.self.inside.black c.self.inside.white in
    has_room (rules_in w) w.world White (reached_inv _ _ _ _ g.met.B.Made.Policy.lawful g.met.W.Made.Policy.lawful w
    c.self.invariant)

pub invariant_of-self : goal.invariant_of-self
invariant_of-self g c =
    let side : side_of_event c.self.inside.controller c.args.event ≡ Some Black =
    sym c.side_of.ensures ∙ c.in-Some-Black.is ∙ ap (λ (s : Colour). Some s) c.in-Some-Black.field-0-is in
    reached_more _ _ _ _ c.args.event _ c.self.invariant
    (black_happens _ _ _ c.self.inside.controller c.self.inside.black c.self.inside.white c.args.event c.step.new.played
    c.step.new.self side c.step.ensures)

pub invariant_of-self-in-Some-White : goal.invariant_of-self-in-Some-White
invariant_of-self-in-Some-White g c =
    let side : side_of_event c.self.inside.controller c.args.event ≡ Some White =
    sym c.side_of.ensures ∙ c.in-Some-White.is ∙ ap (λ (s : Colour). Some s) c.in-Some-White.field-0-is in
    reached_more _ _ _ _ c.args.event _ c.self.invariant
    (white_happens _ _ _ c.self.inside.controller c.self.inside.black c.self.inside.white c.args.event
    c.step-in-Some-White.new.played c.step-in-Some-White.new.self side c.step-in-Some-White.ensures)

pub returns-in-Some-Black : goal.returns-in-Some-Black
returns-in-Some-Black g c =
    let side : side_of_event c.self.inside.controller c.args.event ≡ Some Black =
    sym c.side_of.ensures ∙ c.in-Some-Black.is ∙ ap (λ (s : Colour). Some s) c.in-Some-Black.field-0-is in
    subst (λ (old : MadeWorld _ _ _ _). MadeHappens (policies_by g.B.Made.Policy.may g.B.Maker.may_make)
    (policies_by g.W.Made.Policy.may g.W.Maker.may_make) old c.args.event
    (made_world c.step.new.played c.step.new.self c.self.inside.white)) c.self.view_is
    (black_happens _ _ _ c.self.inside.controller c.self.inside.black c.self.inside.white c.args.event c.step.new.played
    c.step.new.self side c.step.ensures)

pub returns-in-Some-White : goal.returns-in-Some-White
returns-in-Some-White g c =
    let side : side_of_event c.self.inside.controller c.args.event ≡ Some White =
    sym c.side_of.ensures ∙ c.in-Some-White.is ∙ ap (λ (s : Colour). Some s) c.in-Some-White.field-0-is in
    subst (λ (old : MadeWorld _ _ _ _). MadeHappens (policies_by g.B.Made.Policy.may g.B.Maker.may_make)
    (policies_by g.W.Made.Policy.may g.W.Maker.may_make) old c.args.event
    (made_world c.step-in-Some-White.new.played c.self.inside.black c.step-in-Some-White.new.self)) c.self.view_is
    (white_happens _ _ _ c.self.inside.controller c.self.inside.black c.self.inside.white c.args.event
    c.step-in-Some-White.new.played c.step-in-Some-White.new.self side c.step-in-Some-White.ensures)
