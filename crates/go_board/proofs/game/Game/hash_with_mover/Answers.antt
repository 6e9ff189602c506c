use Rattle.go_board.proofs.of_laws.Hashes.{hash-with_ko, hash-without_ko}
use Rattle.go_board.proofs.game.Game.hash_with_mover.Goals as goal

pub returns-in-Some : goal.returns-in-Some
returns-in-Some c =
    hash-with_ko c.args.self.now c.args.to_move c.args.board_hash c.mover_key.result c.ko_key.result c.in-Some.point
    c.requires c.mover_key.ensures c.ko_key.ensures
    c.in-Some.ensures.point

pub returns-in-None : goal.returns-in-None
returns-in-None c =
    hash-without_ko c.args.self.now c.args.to_move c.args.board_hash c.mover_key.result c.requires
    c.mover_key.ensures c.in-None.ensures.point
