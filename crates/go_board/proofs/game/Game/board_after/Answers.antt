use Rattle.std.proofs.Common.{◌∙◌, ap, length}
use Rattle.go_board.proofs.records.EveryGame.{framed-game}
use Rattle.go_board.specs.private.Kept.{record_of}
use Rattle.go_board.proofs.ko_rules.ReplayedBoards.{room-for_board}
use Rattle.go_board.proofs.game.Game.board_after.Goals as goal

pub make_play-requires-clause-room : goal.make_play-requires-clause-room
make_play-requires-clause-room c =
    room-for_board c.copy-chains.result c.args.colour c.place_of.result c.new-stack.result
    (ap length (c.copy-chains.ensures ∙ c.self.invariant.board_is)
    ∙ (framed-game (record_of c.self.inside) c.self.invariant.game).length_is) c.new-stack.ensures
