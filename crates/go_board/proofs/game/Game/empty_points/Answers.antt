use Rattle.std.proofs.Common.{subst}
use Rattle.go_board.specs.Game.{IsGame, board_of}
use Rattle.go_board.proofs.drawing.Orders.{empty-start, empty-all, order-first}
use Rattle.go_board.proofs.records.EveryGame.{framed-game}
use Rattle.go_board.proofs.game.Game.empty_points.Goals as goal

pub loop-place-init : goal.loop-place-init
loop-place-init c = empty-start (board_of c.args.self.now) c.new-order.result c.new-order.ensures

pub returns : goal.returns
returns c =
    let all = empty-all c.args.self.now c.loop-place.place c.loop-place.order
    (framed-game c.args.self.now (subst IsGame c.self.view_is c.self.invariant.game)).length_is c.loop-place-test.false
    c.loop-place.invariant in
    record { empty = all; order = order-first c.args.self.now c.loop-place.order all }
