use Rattle.std.proofs.Common.{◌<◌, length, List, ℕ, rules, subst, sym}
use Rattle.std.specs.Prelude.{Contains}
use Rattle.std.proofs.lemmas.List.Elements.{Contains-push}
use Rattle.go_board.proofs.floods.PlaceSets.{AreMarked-room, AreMarked-insert}
use Rattle.go_board.proofs.places.Places.insert.Goals as goal

pub push-requires : goal.push-requires
push-requires c =
    let room : length c.self.inside.order.items < 702 =
    AreMarked-room c.self.inside c.args.place c.self.invariant c.self.told c.requires c.if-not-self-place.true in
    search rules

pub invariant_of-self : goal.invariant_of-self
invariant_of-self c =
    AreMarked-insert c.self.inside c.args.place c.push.new.self c.self.invariant c.self.told c.requires
    c.if-not-self-place.true c.push.ensures.items

pub returns-then-not-self-place-clause-put_in : goal.returns-then-not-self-place-clause-put_in
returns-then-not-self-place-clause-put_in c =
    subst (λ (xs : List ℕ). Contains xs c.args.place) (sym c.push.ensures.items)
    (Contains-push c.self.inside.order.items c.args.place)
