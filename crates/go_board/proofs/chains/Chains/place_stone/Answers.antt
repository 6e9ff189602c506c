use Rattle.std.proofs.Common.{◌∙◌, ap, subst, sym, refl, List}
use Rattle.std.specs.Prelude.{map}
use Rattle.go_board.specs.Board.{at}
use Rattle.go_board.specs.private.ChainId.{BoardWithIds, AreChains}
use Rattle.go_board.specs.private.Steps.{rename_three}
use Rattle.go_board.specs.declared.board.Cell.{Cell}
use Rattle.go_board.proofs.ids.JoiningChains.{AreOwn-code, AreChains-set}
use Rattle.go_board.proofs.chains.Chains.place_stone.Goals as goal

pub join-requires-clause-three : goal.join-requires-clause-three
join-requires-clause-three c = record {
  first = c.id_or-a.ensures.named;
  second = c.id_or-b.ensures.named;
  third = c.id_or-c.ensures.named;
  first_below = c.id_or-a.ensures.below;
  second_below = c.id_or-b.ensures.below;
  third_below = c.id_or-c.ensures.below;
}

pub invariant_of-self : goal.invariant_of-self
invariant_of-self c =
    let s = c.self.inside.stones in
    let place = c.args.place in
    let id = c.id_or-id.result in
    let x = c.id_or-a.result in
    let y = c.id_or-b.result in
    let z = c.id_or-c.result in
    let own =
    AreOwn-code s.board s.ids c.args.colour c.stone-stone.result place _ _ _ id x y z
    c.stone-stone.ensures c.requires.point
    c.id_or-under.ensures.value c.id_or-above.ensures.value c.id_or-left.ensures.value
    c.id_or-id.ensures.value
    c.id_or-a.ensures.value c.id_or-b.ensures.value c.id_or-c.ensures.value in
    let empty = ap (λ (b : List Cell). at b place) c.self.view_is ∙ c.requires.empty in
    subst (λ (t : BoardWithIds). AreChains t.board t.ids)
    (sym (c.join.ensures
    ∙ ap (λ (t : BoardWithIds). let u : BoardWithIds = record t { ids = map (rename_three id x y z) t.ids } in u)
    c.place_stone.ensures))
    (AreChains-set s.board s.ids _ c.args.colour place id x y z c.requires.point empty c.self.invariant own refl)
