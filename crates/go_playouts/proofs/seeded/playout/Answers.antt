use Rattle.go_playouts.proofs.FirstWords.{seeded}
use Rattle.go_playouts.proofs.seeded.playout.Goals as goal

pub returns : goal.returns
returns c =
    seeded c.args.game.now c.args.colour c.args.seed c.args.limit c.new-words.result c.playout.new.self
    c.playout.new.words c.new-words.ensures c.playout.ensures
