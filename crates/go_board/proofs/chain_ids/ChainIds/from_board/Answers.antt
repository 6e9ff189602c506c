use Rattle.std.proofs.Common.{◌≢◌, ◌+◌, List, ℕ, length, sym, ◌∙◌, ap, subst}
use Rattle.go_board.specs.Board.{at, IsStone}
use Rattle.go_board.specs.private.ChainId.{id_of}
use Rattle.go_board.proofs.ids.FindingIds.{AreIdsSoFar, AreIdsSoFar-none, AreIdsSoFar-chain, AreIdsSoFar-past}
use Rattle.go_board.proofs.ids.FindingIds.{AreIdsSoFar-done}
use Rattle.go_board.proofs.chain_ids.ChainIds.from_board.Goals as goal
use Rattle.go_board.proofs.chain_ids.ChainIds.from_board.Goals.{then-is_stone+then-at-eq0, else-is_stone}
use Rattle.go_board.proofs.chain_ids.ChainIds.from_board.Goals.{else-is_stone-via-then-is_stone+else-at-eq0}
use Rattle.go_board.proofs.chain_ids.ChainIds.from_board.Goals.{else-is_stone-via-else-is_stone}

pub loop-place-init : goal.loop-place-init
loop-place-init c =
    AreIdsSoFar-none c.args.board.now c.none-ids.result c.none-ids.ensures (ap length c.none-ids.ensures)

pub loop-place-preserved : goal.loop-place-preserved
loop-place-preserved c =
    let board = c.args.board.now in
    let n = c.loop-place.place in
    elim c.if-is_stone.branch [
      | then-is_stone+then-at-eq0 w ↦
          let stone : IsStone (at board n) =
          subst IsStone c.at.ensures (c.is_stone.ensures.fact.0 w.if-is_stone.true) in
          subst (λ (ls : List ℕ). AreIdsSoFar board (n + 1) ls) (sym w.ids-is)
          (AreIdsSoFar-chain board n w.chain_into.new.found c.loop-place.ids w.set_all.new.self c.requires stone
          w.chain_into.ensures w.set_all.ensures.given w.set_all.ensures.others w.set_all.ensures.long
          c.loop-place.invariant)
      | else-is_stone w ↦
          let has : IsStone (at board n) → id_of c.loop-place.ids n ≢ 0 = elim w.else-is_stone.branch [
            | else-is_stone-via-then-is_stone+else-at-eq0 w' ↦
                λ _ e. w'.if-at-eq0.false (w'.at-then-is_stone.ensures.value ∙ e)
            | else-is_stone-via-else-is_stone w' ↦ λ s _.
                let is = c.is_stone.ensures.fact.1 (subst IsStone (sym c.at.ensures) s) in
                let isnt = w'.if-is_stone.false in cc
          ] in
          subst (λ (ls : List ℕ). AreIdsSoFar board (n + 1) ls) (sym w.ids-is)
          (AreIdsSoFar-past board n c.loop-place.ids has c.loop-place.invariant)
    ]

pub returns-clause-ids : goal.returns-clause-ids
returns-clause-ids c =
    AreIdsSoFar-done c.args.board.now c.loop-place.place c.loop-place.ids c.requires c.loop-place-test.false
    c.loop-place.invariant

pub returns-clause-blank : goal.returns-clause-blank
returns-clause-blank c = c.loop-place.invariant.blank
