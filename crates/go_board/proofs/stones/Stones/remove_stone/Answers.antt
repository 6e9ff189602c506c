use Rattle.std.proofs.Common.{ℕ, ◌-◌, ◌∙◌, ap, subst, sym, arith}
use Rattle.go_base.specs.declared.colours.Colour.TheVariants.{Black, White}
use Rattle.go_board.specs.Board.{at, IsStone}
use Rattle.go_board.specs.private.Areas.{one_of}
use Rattle.go_board.specs.private.ChainId.{BoardWithIds}
use Rattle.go_board.proofs.liberties.StoneNumbers.{enough-stones}
use Rattle.go_board.proofs.liberties.StonesFields.{AreCounted-removed, place-of_stone}
use Rattle.go_board.proofs.stones.Stones.remove_stone.Goals as goal

pub overflow_sub-self : goal.overflow_sub-self
overflow_sub-self c =
    let enough = enough-stones c.self.inside.board Black c.args.place c.self.inside.black
    (place-of_stone c.self.inside c.args.place c.self.invariant
    (subst (λ (s : BoardWithIds). IsStone (at s.board c.args.place)) (sym c.self.view_is) c.requires))
    c.self.invariant.black_is in
    omega (arith, enough, c.one_of.ensures.value ∙ ap (one_of Black) c.at-stone.ensures)

pub overflow_sub-self-2 : goal.overflow_sub-self-2
overflow_sub-self-2 c =
    let enough = enough-stones c.self.inside.board White c.args.place c.self.inside.white
    (place-of_stone c.self.inside c.args.place c.self.invariant
    (subst (λ (s : BoardWithIds). IsStone (at s.board c.args.place)) (sym c.self.view_is) c.requires))
    c.self.invariant.white_is in
    omega (arith, enough, c.one_of-2.ensures.value ∙ ap (one_of White) c.at-stone.ensures)

pub invariant_of-self : goal.invariant_of-self
invariant_of-self c =
    AreCounted-removed c.self.inside c.set.new.self c.set-2.new.self c.lessen.new.self
    c.raise_all_beside.new.self c.args.place c.at.result c.empty_beside-less.result
    (c.self.inside.black - c.one_of.result) (c.self.inside.white - c.one_of-2.result) c.self.invariant
    (subst (λ (s : BoardWithIds). IsStone (at s.board c.args.place)) (sym c.self.view_is) c.requires)
    c.at.ensures.value c.at.ensures.below c.empty_beside-less.ensures.value c.lessen.ensures c.set.ensures
    c.set-2.ensures.value c.raise_all_beside.ensures
    (ap (λ (n : ℕ). c.self.inside.black - n) (c.one_of.ensures.value ∙ ap (one_of Black) c.at-stone.ensures))
    (ap (λ (n : ℕ). c.self.inside.white - n) (c.one_of-2.ensures.value ∙ ap (one_of White) c.at-stone.ensures))
