use Rattle.std.proofs.Common.{ℕ, List, length, get_or, ap, sym, ◌∙◌, arith}
use Rattle.go_board.proofs.floods.PlaceSets.{IsClearing-below, IsClearing-more, AreMarked-cleared}
use Rattle.go_board.proofs.places.Places.clear.Goals as goal

pub bounds-deref-index : goal.bounds-deref-index
bounds-deref-index c =
    let in_range = c.loop-index-test.true in
    let all = c.len-index-end.ensures.value in
    let same = ap length (c.deref.ensures.0 ∙ c.loop-index.invariant.same ∙ sym c.self.view_is) in
    omega (arith, in_range, same, all)

pub bounds-self-inside-from : goal.bounds-self-inside-from
bounds-self-inside-from c =
    let in_range = c.loop-index-test.true in
    let all = c.len-index-end.ensures.value in
    IsClearing-below c.self.inside c.loop-index.index c.from.result c.deref.result.now c.self.invariant
    (c.deref.ensures.0 ∙ c.loop-index.invariant.same ∙ sym c.self.view_is)
    (omega (arith, in_range, all)) c.from.ensures

pub loop-index-preserved : goal.loop-index-preserved
loop-index-preserved c =
    let in_range = c.loop-index-test.true in
    let all = c.len-index-end.ensures.value in
    IsClearing-more c.args.self.now c.loop-index.index c.from.result c.loop-index.self-inside.order.items
    c.loop-index.self-inside.marked c.loop-index.invariant
    (omega (arith, in_range, all, ap length c.self.view_is)) (bounds-self-inside-from c)
    (c.from.ensures ∙ ap (λ (xs : List ℕ). get_or xs c.loop-index.index 0) c.deref.ensures.0)

pub invariant_of-self : goal.invariant_of-self
invariant_of-self c =
    let past = c.loop-index-test.false in
    let all = c.len-index-end.ensures.value in
    AreMarked-cleared c.args.self.now c.loop-index.index c.loop-index.self-inside.order.items
    c.loop-index.self-inside.marked c.clear.new.self c.loop-index.invariant
    (omega (arith, past, all, ap length c.self.view_is)) c.clear.ensures
