use Rattle.go_board.proofs.floods.Regions.{AreSpread-four}
use Rattle.go_board.proofs.board.Board.spread_round.Goals as goal

pub returns : goal.returns
returns c =
    AreSpread-four c.args.self.now c.args.sought c.args.place c.args.found.now c.spread.new.found c.spread-2.new.found
    c.spread-3.new.found c.spread-4.new.found c.requires.low c.spread.ensures c.spread-2.ensures c.spread-3.ensures
    c.spread-4.ensures
