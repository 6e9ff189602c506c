use Rattle.std.proofs.Common.{ℕ, ◌+◌, ◌∙◌, ap, arith}
use Rattle.std.specs.Prelude.{slice_set}
use Rattle.go_base.specs.declared.colours.Colour.TheVariants.{Black, White}
use Rattle.go_board.specs.Board.{at}
use Rattle.go_board.specs.private.Areas.{one_of}
use Rattle.go_board.specs.private.ChainId.{BoardWithIds}
use Rattle.go_board.proofs.liberties.StoneNumbers.{stones-few}
use Rattle.go_board.proofs.liberties.StonesFields.{room-for_placed, AreCounted-placed}
use Rattle.go_board.proofs.stones.Stones.place_stone.Goals as goal

pub overflow_add-self : goal.overflow_add-self
overflow_add-self c =
    let few = stones-few c.self.inside.board Black in
    let is = c.self.invariant.black_is in
    let one = c.one_of.ensures.few in
    omega (arith, few, is, one)

pub overflow_add-self-2 : goal.overflow_add-self-2
overflow_add-self-2 c =
    let few = stones-few c.self.inside.board White in
    let is = c.self.invariant.white_is in
    let one = c.one_of-2.ensures.few in
    omega (arith, few, is, one)

pub add-requires-clause-room : goal.add-requires-clause-room
add-requires-clause-room c =
    room-for_placed c.self.inside c.lower_all_beside.new.self c.args.place c.args.id c.empty_beside-more.result
    c.self.invariant c.requires.id c.requires.named c.empty_beside-more.ensures.few c.lower_all_beside.ensures

pub invariant_of-self : goal.invariant_of-self
invariant_of-self c =
    AreCounted-placed c.self.inside c.set.new.self c.set-2.new.self c.lower_all_beside.new.self c.add.new.self
    c.args.colour c.args.place c.args.id c.empty_beside-more.result (c.self.inside.black + c.one_of.result)
    (c.self.inside.white + c.one_of-2.result) c.self.invariant c.requires.point
    (ap (λ (s : BoardWithIds). at s.board c.args.place) c.self.view_is ∙ c.requires.empty) c.requires.id
    c.requires.named c.lower_all_beside.ensures
    (c.set.ensures ∙ ap (slice_set c.self.inside.board c.args.place) c.stone-stone.ensures) c.set-2.ensures.value
    c.empty_beside-more.ensures.value c.add.ensures
    (ap (λ (n : ℕ). c.self.inside.black + n) (c.one_of.ensures.value ∙ ap (one_of Black) c.stone-stone.ensures))
    (ap (λ (n : ℕ). c.self.inside.white + n) (c.one_of-2.ensures.value ∙ ap (one_of White) c.stone-stone.ensures))
