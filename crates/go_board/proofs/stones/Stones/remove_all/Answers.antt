use Rattle.std.proofs.Common.{◌<◌, length, ap, ◌∙◌, arith}
use Rattle.std.specs.Prelude.{slice_set}
use Rattle.go_board.specs.declared.board.Cell.TheVariants.{Empty}
use Rattle.go_board.specs.private.ChainId.{BoardWithIds}
use Rattle.go_board.proofs.playouts.CapturedSets.{IsRemovingAll-none, IsRemovingAll-more, IsRemovingAll-done, next-stone}
use Rattle.go_board.proofs.stones.Stones.remove_all.Goals as goal

pub loop-index-init : goal.loop-index-init
loop-index-init c = IsRemovingAll-none c.args.self.now c.args.places.now

pub remove_stone-requires : goal.remove_stone-requires
remove_stone-requires c =
    let test = c.loop-index-test.true in
    let end = c.len-index-end.ensures.value in
    let in_range : c.loop-index.index < length c.args.places.now = omega (arith, test, end) in
    let s =
    next-stone c.args.self.now c.loop-index.self c.args.places.now c.loop-index.index c.len-index-end.ensures.once
    in_range c.requires c.loop-index.invariant in
    rw (← c.get.ensures.value) at s

pub loop-index-preserved : goal.loop-index-preserved
loop-index-preserved c =
    let test = c.loop-index-test.true in
    let end = c.len-index-end.ensures.value in
    let in_range : c.loop-index.index < length c.args.places.now = omega (arith, test, end) in
    let s =
    next-stone c.args.self.now c.loop-index.self c.args.places.now c.loop-index.index c.len-index-end.ensures.once
    in_range c.requires c.loop-index.invariant in
    IsRemovingAll-more c.args.self.now c.loop-index.self c.remove_stone.new.self c.args.places.now c.loop-index.index s
    (c.remove_stone.ensures
    ∙ ap (λ p. let t : BoardWithIds = record {
      board = slice_set c.loop-index.self.board p Empty;
      ids = slice_set c.loop-index.self.ids p 0;
    } in t) c.get.ensures.value)
    c.loop-index.invariant

pub returns : goal.returns
returns c =
    let past = c.loop-index-test.false in
    let end = c.len-index-end.ensures.value in
    let most = c.loop-index.auto.index-end in
    IsRemovingAll-done c.args.self.now c.loop-index.self c.args.places.now c.loop-index.index
    (omega (arith, past, end)) (omega (arith, most, end)) c.loop-index.invariant
