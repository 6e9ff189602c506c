use Rattle.std.proofs.Common.{length, ap, arith}
use Rattle.go_board.proofs.playouts.RisingPlaces.{IsAddingRising-none, IsAddingRising-more, IsAddingRising-done}
use Rattle.go_board.proofs.playouts.RisingPlaces.{adding-length}
use Rattle.go_board.proofs.empty_points.EmptyPoints.add_rising.Goals as goal

pub loop-index-init : goal.loop-index-init
loop-index-init c = IsAddingRising-none c.args.self.now c.args.places.now

pub insert_from-requires-clause-start : goal.insert_from-requires-clause-start
insert_from-requires-clause-start c =
    let long = adding-length c.args.self.now c.args.places.now c.loop-index.index c.loop-index.self c.loop-index.invariant in
    let start = c.len-start.ensures in
    let same = ap length c.self.view_is in
    omega (arith, long, start, same)

pub insert_from-requires-clause-room : goal.insert_from-requires-clause-room
insert_from-requires-clause-room c =
    let long = adding-length c.args.self.now c.args.places.now c.loop-index.index c.loop-index.self c.loop-index.invariant in
    let test = c.loop-index-test.true in
    let end = c.len-index-end.ensures.value in
    let room = c.requires in
    omega (arith, long, test, end, room)

pub loop-index-preserved : goal.loop-index-preserved
loop-index-preserved c =
    let test = c.loop-index-test.true in
    let end = c.len-index-end.ensures.value in
    let start = c.len-start.ensures in
    let same = ap length c.self.view_is in
    IsAddingRising-more c.args.self.now c.args.places.now c.loop-index.self c.insert_from.new.self c.len-start.result
    c.loop-index.index c.get.result c.len-index-end.ensures.once (omega (arith, test, end)) c.get.ensures.value
    (omega (arith, start, same)) c.loop-index.invariant c.insert_from.ensures

pub returns : goal.returns
returns c =
    let past = c.loop-index-test.false in
    let end = c.len-index-end.ensures.value in
    let most = c.loop-index.auto.index-end in
    IsAddingRising-done c.args.self.now c.args.places.now c.loop-index.self c.loop-index.index
    (omega (arith, past, end, most)) c.loop-index.invariant
