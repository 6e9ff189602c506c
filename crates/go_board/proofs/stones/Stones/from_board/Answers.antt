use Rattle.go_board.proofs.liberties.StonesFields.{AreCounted-found}
use Rattle.go_board.proofs.stones.Stones.from_board.Goals as goal

pub invariant_of-result : goal.invariant_of-result
invariant_of-result c =
    AreCounted-found c.args.board c.from_board-ids.result c.new-counts.result c.args.lines c.stones_of-black.result
    c.stones_of-white.result c.requires.framed c.requires.size c.requires.lines c.from_board-ids.ensures.ids
    c.from_board-ids.ensures.blank c.new-counts.ensures c.stones_of-black.ensures.value c.stones_of-white.ensures.value

pub returns-clause-chains : goal.returns-clause-chains
returns-clause-chains c = record { framed = c.requires.framed; ids = c.from_board-ids.ensures.ids }
