use Rattle.std.proofs.Common.{◌≡◌, ◌+◌, ap, ◌∙◌, subst, arith, List}
use Rattle.go_board.specs.Game.{board_of}
use Rattle.go_board.specs.declared.board.Cell.{Cell}
use Rattle.go_board.specs.private.Columns.{AreEmptyIn}
use Rattle.go_board.proofs.records.RowsOfPoints.{open-from}
use Rattle.go_board.proofs.game.Game.legal_points_into.Goals as goal

pub sure_in_row-sure-requires : goal.sure_in_row-sure-requires
sure_in_row-sure-requires c =
    let same : c.board-board.result.now ≡ board_of c.args.self.now =
    c.board-board.ensures ∙ c.self.invariant.board_is ∙ ap board_of c.self.view_is in
    open-from (board_of c.args.self.now) c.loop-row.row c.loop-row.below c.loop-row.here c.empty_in_row-above.result
    c.beside_any.result
    (omega arith) c.loop-row.invariant.under c.loop-row.invariant.row_is
    (subst (λ (b : List Cell). AreEmptyIn b (c.loop-row.row + 1) c.empty_in_row-above.result) same
    c.empty_in_row-above.ensures)
    c.beside_any.ensures
