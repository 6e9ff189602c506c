use Rattle.std.proofs.Common.{◌+◌, ◌*◌}
use Rattle.go_board.proofs.records.RowsOfPoints.{surely-legal}
use Rattle.go_board.proofs.game.Game.sure_in_row.Goals as goal

pub returns-in-Simple-clause-sure : goal.returns-in-Simple-clause-sure
returns-in-Simple-clause-sure c k colour has =
    let is_open = c.requires k has in (
      is_open.0,
      surely-legal c.self.inside c.args.self.now colour (26 * c.args.row + k) c.self.view_is c.self.invariant
          c.in-Simple.is is_open.1 is_open.2,
    )
