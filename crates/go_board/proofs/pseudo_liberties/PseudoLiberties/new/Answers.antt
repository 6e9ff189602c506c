use Rattle.std.proofs.Common.{◌≡◌, ◌+◌, ◌∙◌, ap, subst, sym, arith, true, false}
use Rattle.go_board.specs.Board.{at}
use Rattle.go_board.specs.private.ChainId.{is_stone}
use Rattle.go_board.proofs.liberties.CountingAll.{IsCounting, IsCounting-none, IsCounting-past, IsCounting-stone}
use Rattle.go_board.proofs.liberties.CountingAll.{IsCounting-few, ArePseudoLiberties-counted}
use Rattle.go_board.proofs.pseudo_liberties.PseudoLiberties.new.Goals as goal
use Rattle.go_board.proofs.pseudo_liberties.PseudoLiberties.new.Goals.{then-is_stone, else-is_stone}

pub loop-place-init : goal.loop-place-init
loop-place-init c = IsCounting-none c.args.board.now c.args.ids.now c.zero-counts.result c.zero-counts.ensures

pub add-requires-clause-room : goal.add-requires-clause-room
add-requires-clause-room c =
    let few =
    IsCounting-few c.args.board.now c.args.ids.now c.loop-place.place c.at-then-is_stone.result
    c.loop-place.counts c.loop-place.auto.place-end c.at-then-is_stone.ensures.below c.loop-place.invariant in
    let more = c.empty_beside-more.ensures.few in
    omega (arith, few, more)

pub loop-place-preserved : goal.loop-place-preserved
loop-place-preserved c =
    let board = c.args.board.now in
    let ids = c.args.ids.now in
    let n = c.loop-place.place in
    elim c.if-is_stone.branch [
      | then-is_stone w ↦
          let stone : is_stone (at board n) ≡ true =
          ap is_stone (sym c.at.ensures) ∙ sym c.is_stone.ensures.value ∙ w.if-is_stone.true in
          subst (IsCounting board ids (n + 1)) (sym w.counts-is)
          (IsCounting-stone board ids n w.at-then-is_stone.result w.empty_beside-more.result c.loop-place.counts
          w.add.new.self stone w.at-then-is_stone.ensures.value w.at-then-is_stone.ensures.below
          w.empty_beside-more.ensures.value w.add.ensures c.loop-place.invariant)
      | else-is_stone w ↦
          let none : is_stone (at board n) ≡ false =
          ap is_stone (sym c.at.ensures) ∙ sym c.is_stone.ensures.value ∙ w.if-is_stone.false in
          subst (IsCounting board ids (n + 1)) (sym w.counts-is)
          (IsCounting-past board ids n c.loop-place.counts none c.loop-place.invariant)
    ]

pub returns : goal.returns
returns c =
    let past = c.loop-place-test.false in
    let end = c.loop-place.auto.place-end in
    ArePseudoLiberties-counted c.args.board.now c.args.ids.now c.loop-place.place c.loop-place.counts
    (omega (arith, past, end)) c.loop-place.invariant
