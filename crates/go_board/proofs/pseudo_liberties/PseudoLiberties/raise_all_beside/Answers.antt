use Rattle.std.proofs.Common.{◌≡◌, ◌∙◌, ap, sym, length}
use Rattle.go_board.proofs.liberties.NamedIds.{AreAllRaised-four}
use Rattle.go_board.proofs.pseudo_liberties.PseudoLiberties.raise_all_beside.Goals as goal

pub returns : goal.returns
returns c =
    let long : length c.args.self.now ≡ 702 = ap length (sym c.self.view_is) ∙ c.self.invariant in
    AreAllRaised-four c.args.ids.now c.args.self.now c.raise_id.new.self c.raise_id-2.new.self c.raise_id-3.new.self
    c.raise_id-4.new.self c.args.place c.at.result c.at-2.result c.at-3.result c.at-4.result long
    c.at.ensures.below c.at-2.ensures.below c.at-3.ensures.below c.at-4.ensures.below c.at.ensures.value
    c.at-2.ensures.value c.at-3.ensures.value c.at-4.ensures.value c.raise_id.ensures c.raise_id-2.ensures
    c.raise_id-3.ensures c.raise_id-4.ensures
