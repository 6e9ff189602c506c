use Rattle.std.proofs.Common.{◌≡◌, ◌<◌, ℕ, List, arith, length, ap, subst}
use Rattle.std.specs.Prelude.{slice_index}
use Rattle.go_board.specs.Board.{stone}
use Rattle.go_board.specs.private.ChainId.{BoardWithIds}
use Rattle.go_board.specs.private.Flood.{AreSpread}
use Rattle.go_board.specs.declared.board.Cell.{Cell}
use Rattle.go_board.proofs.playouts.CapturedSets.{IsTakingAll-start, IsTakingAll-more, IsTakingAll-done, taking-inside}
use Rattle.go_board.proofs.stones.Stones.captured_into.Goals as goal

pub loop-next-init : goal.loop-next-init
loop-next-init c =
    IsTakingAll-start c.args.self.now.board c.args.colour c.args.place c.clear.new.self c.seed.new.found
    c.seed-2.new.found c.seed-3.new.found c.seed-4.new.found c.clear.ensures c.seed.ensures c.seed-2.ensures
    c.seed-3.ensures c.seed-4.ensures

pub spread_round-requires-clause-low : goal.spread_round-requires-clause-low
spread_round-requires-clause-low c =
    let test : c.loop-next.next < length c.loop-next.found = omega arith in
    let is = c.get.ensures.value in
    let low = (taking-inside c.args.self.now.board c.args.colour c.args.place c.loop-next.next c.loop-next.found
    c.requires.chains.framed c.loop-next.invariant test).low in
    omega (arith, is, low)

pub spread_round-requires-clause-high : goal.spread_round-requires-clause-high
spread_round-requires-clause-high c =
    let test : c.loop-next.next < length c.loop-next.found = omega arith in
    let is = c.get.ensures.value in
    let high = (taking-inside c.args.self.now.board c.args.colour c.args.place c.loop-next.next c.loop-next.found
    c.requires.chains.framed c.loop-next.invariant test).high in
    omega (arith, is, high)

pub loop-next-preserved : goal.loop-next-preserved
loop-next-preserved c =
    let next = c.loop-next.next in
    let a = c.loop-next.found in
    let e = c.spread_round.new.found in
    let board = c.args.self.now.board in
    let test : next < length a = omega arith in
    let cells : c.self.inside.board ≡ board = ap (λ (s : BoardWithIds). s.board) c.self.view_is in
    IsTakingAll-more board c.args.colour c.args.place next a e test c.loop-next.invariant
    (subst (λ (b : List Cell). AreSpread b (stone c.args.colour) (slice_index a next) a e) cells
    (subst (λ (x : Cell). AreSpread c.self.inside.board x (slice_index a next) a e) c.stone-stone.ensures
    (subst (λ (q : ℕ). AreSpread c.self.inside.board c.stone-stone.result q a e) c.get.ensures.value
    c.spread_round.ensures)))

pub returns : goal.returns
returns c =
    IsTakingAll-done c.args.self.now.board c.args.colour c.args.place c.loop-next.next c.loop-next.found
    c.requires.beside c.loop-next.invariant (omega arith)
