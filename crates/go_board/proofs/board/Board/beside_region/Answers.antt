use Rattle.go_board.proofs.floods.Beside.{learnt-known}
use Rattle.go_board.proofs.ids.Paths.{Joined-back, Joined-point}
use Rattle.go_board.proofs.board.Board.beside_region.Goals as goal

pub beside_all-beside-requires : goal.beside_all-beside-requires
beside_all-beside-requires c p h = Joined-point (Joined-back ((c.chain_into.ensures p).0 h))

pub returns-clause-known : goal.returns-clause-known
returns-clause-known c =
    learnt-known c.args.self.now c.args.place c.chain_into.new.found c.args.regions.now.known c.learn.new.self.known
    c.beside_all-beside.result c.chain_into.ensures c.beside_all-beside.ensures.black
    c.beside_all-beside.ensures.white c.learn.ensures c.requires.known
