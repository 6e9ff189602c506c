use Rattle.std.proofs.Common.{arith}
use Rattle.go_board.proofs.undo.LastTaken.{listed-on, listed-room, listed-all}
use Rattle.go_board.proofs.game.Game.taken_by_last_move_into.Goals as goal

pub point_at-requires : goal.point_at-requires
point_at-requires c =
    listed-on c.args.self.now c.last_taken-stone-items.result.now c.loop-stone.stone-index c.from.result
    (record { place = 0; number = 0 }) c.last_taken-stone-items.ensures.game
    c.last_taken-stone-items.ensures.taken c.loop-stone-test.true c.from.ensures

pub push-requires : goal.push-requires
push-requires c = (
  omega arith,
  listed-room c.args.self.now c.last_taken-stone-items.result.now c.loop-stone.stone-index c.loop-stone.points.items
      c.last_taken-stone-items.ensures.game
      c.last_taken-stone-items.ensures.taken c.loop-stone-test.true c.loop-stone.invariant,
)

pub returns : goal.returns
returns c =
    listed-all c.args.self.now c.last_taken-stone-items.result.now c.loop-stone.stone-index c.loop-stone.points.items
    c.last_taken-stone-items.ensures.taken c.loop-stone-test.false c.loop-stone.invariant
