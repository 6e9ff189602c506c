use Rattle.std.proofs.Common.{◌≡◌, ◌∙◌, ap, sym, length}
use Rattle.go_board.proofs.liberties.NamedIds.{AreAllLowered-four}
use Rattle.go_board.proofs.pseudo_liberties.PseudoLiberties.lower_all_beside.Goals as goal

pub returns : goal.returns
returns c =
    let long : length c.args.self.now ≡ 702 = ap length (sym c.self.view_is) ∙ c.self.invariant in
    AreAllLowered-four c.args.ids.now c.args.self.now c.lessen.new.self c.lessen-2.new.self c.lessen-3.new.self
    c.lessen-4.new.self c.args.place c.at.result c.at-2.result c.at-3.result c.at-4.result long
    c.at.ensures.below c.at-2.ensures.below c.at-3.ensures.below c.at-4.ensures.below c.at.ensures.value
    c.at-2.ensures.value c.at-3.ensures.value c.at-4.ensures.value c.lessen.ensures c.lessen-2.ensures
    c.lessen-3.ensures c.lessen-4.ensures
