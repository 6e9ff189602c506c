use Rattle.go_board.proofs.liberties.StonesFields.{room-for_first, room-for_second, room-for_third}
use Rattle.go_board.proofs.liberties.StonesFields.{AreCounted-joined, AreInRows-kept}
use Rattle.go_board.proofs.stones.Stones.join_three.Goals as goal

pub merge-requires-clause-room : goal.merge-requires-clause-room
merge-requires-clause-room c =
    room-for_first c.self.inside c.args.to c.args.a c.self.invariant c.requires.to c.requires.three.first_below
    c.requires.named c.requires.three.first

pub merge-requires-2-clause-room : goal.merge-requires-2-clause-room
merge-requires-2-clause-room c =
    room-for_second c.self.inside c.merge.new.self c.args.to c.args.a c.args.b c.self.invariant c.requires.to
    c.requires.named c.requires.three.first_below c.requires.three.first c.requires.three.second_below
    c.requires.three.second c.merge.ensures

pub merge-requires-3-clause-room : goal.merge-requires-3-clause-room
merge-requires-3-clause-room c =
    room-for_third c.self.inside c.merge.new.self c.merge-2.new.self c.args.to c.args.a c.args.b c.args.c
    c.self.invariant c.requires.to c.requires.named c.requires.three c.merge.ensures c.merge-2.ensures

pub join-requires-clause-lines : goal.join-requires-clause-lines
join-requires-clause-lines c = c.self.invariant.few

pub join-requires-clause-rows : goal.join-requires-clause-rows
join-requires-clause-rows c = AreInRows-kept c.self.inside c.self.invariant

pub invariant_of-self : goal.invariant_of-self
invariant_of-self c =
    AreCounted-joined c.self.inside c.join.new.self c.merge.new.self c.merge-2.new.self c.merge-3.new.self
    c.args.to c.args.a c.args.b c.args.c c.self.invariant c.requires.to c.requires.named c.requires.three
    c.merge.ensures c.merge-2.ensures c.merge-3.ensures c.join.ensures
