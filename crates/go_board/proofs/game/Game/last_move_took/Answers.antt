use Rattle.go_board.proofs.records.LastTaken.{took-any}
use Rattle.go_board.proofs.game.Game.last_move_took.Goals as goal

pub returns : goal.returns
returns c =
    took-any c.args.self.now c.last_taken.result.now c.is_empty.result c.last_taken.ensures.taken c.is_empty.ensures
