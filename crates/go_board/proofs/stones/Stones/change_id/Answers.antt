use Rattle.std.proofs.Common.{subst, sym}
use Rattle.go_board.specs.Board.{at, IsStone}
use Rattle.go_board.specs.private.ChainId.{BoardWithIds}
use Rattle.go_board.proofs.liberties.StonesFields.{room-for_id_changed, AreCounted-id_changed}
use Rattle.go_board.proofs.stones.Stones.change_id.Goals as goal

pub add-requires-clause-room : goal.add-requires-clause-room
add-requires-clause-room c =
    room-for_id_changed c.self.inside c.lessen.new.self c.args.place c.at.result c.args.id c.empty_beside-share.result
    c.self.invariant
    (subst (λ (s : BoardWithIds). IsStone (at s.board c.args.place)) (sym c.self.view_is) c.requires.stone)
    c.at.ensures.value c.at.ensures.below c.requires.id c.requires.named c.empty_beside-share.ensures.few
    c.lessen.ensures

pub invariant_of-self : goal.invariant_of-self
invariant_of-self c =
    AreCounted-id_changed c.self.inside c.set.new.self c.lessen.new.self c.add.new.self c.args.place c.at.result
    c.args.id c.empty_beside-share.result c.self.invariant
    (subst (λ (s : BoardWithIds). IsStone (at s.board c.args.place)) (sym c.self.view_is) c.requires.stone)
    c.at.ensures.value c.at.ensures.below c.requires.id c.requires.named c.empty_beside-share.ensures.value
    c.lessen.ensures c.add.ensures c.set.ensures.value
