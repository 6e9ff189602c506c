use Rattle.std.proofs.Common.{◌<◌, length, refl, sym, subst, arith, Contains}
use Rattle.std.proofs.lemmas.List.Elements.{Contains-get_or}
use Rattle.go_board.proofs.floods.Beside.{learnt-none, learnt-more}
use Rattle.go_board.proofs.areas.Regions.learn.Goals as goal

pub loop-index-init : goal.loop-index-init
loop-index-init c = learnt-none c.args.self.now.known c.args.places.now c.args.beside

pub loop-index-preserved : goal.loop-index-preserved
loop-index-preserved c =
    let in_range : c.loop-index.index < length c.args.places.now = omega arith in
    learnt-more c.args.self.now.known c.loop-index.self.known _ c.args.places.now c.args.beside c.get.result
    (subst (Contains c.args.places.now) (sym c.get.ensures.value)
    (Contains-get_or c.args.places.now c.loop-index.index 0 in_range))
    refl c.loop-index.invariant
