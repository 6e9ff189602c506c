use Rattle.go_board.proofs.records.RowsOfPoints.{sorted-start}
use Rattle.go_board.proofs.game.Game.legal_in_row.Goals as goal

pub loop-column-init : goal.loop-column-init
loop-column-init c =
    sorted-start c.args.self.now c.args.colour c.args.row c.args.empty c.args.sure c.without-left.result
    c.requires.empty c.requires.sure c.without-left.ensures
