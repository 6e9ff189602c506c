use Rattle.std.proofs.Common.{◌∙◌, ap, subst, sym, List}
use Rattle.go_board.specs.Board.{at, IsStone}
use Rattle.go_board.specs.private.Frame.{IsFramed}
use Rattle.go_board.specs.private.ChainId.{BoardWithIds, AreChains}
use Rattle.go_board.specs.private.Steps.{IsCut}
use Rattle.go_board.specs.declared.board.Cell.{Cell}
use Rattle.go_board.specs.declared.board.Cell.TheVariants.{Empty}
use Rattle.go_board.proofs.boards.Cells.{IsFramed-set}
use Rattle.go_board.proofs.ids.Paths.{IsStone-point}
use Rattle.go_board.proofs.liberties.PlacingStones.{stone_on}
use Rattle.go_board.proofs.ids.SplittingChains.{AreChainIds-whole, IsCut-removed}
use Rattle.go_board.proofs.chains.Chains.remove_stone.Goals as goal

pub invariant_of-self : goal.invariant_of-self
invariant_of-self c =
    let s = c.self.inside.stones in
    let p = c.args.place in
    let stone = subst (λ (b : List Cell). IsStone (at b p)) (sym c.self.view_is) c.requires in
    subst (λ (t : BoardWithIds). AreChains t.board t.ids) (sym c.remove_stone.ensures) (record {
      framed = IsFramed-set s.board p Empty (IsStone-point (at s.board p) stone) c.self.invariant.framed;
      ids =
          AreChainIds-whole s.board s.ids p c.id-id.result c.named_beside-beside.result stone
          c.self.invariant.ids c.id-id.ensures.value (c.named_beside-beside.ensures.stones
          (c.id-id.ensures.named stone))
          (c.stays_whole.ensures.0 c.if-stays_whole.true);
    })

pub split-requires-clause-point : goal.split-requires-clause-point
split-requires-clause-point c =
    stone_on c.self.inside.stones.board c.args.place c.self.invariant.framed
    (subst (λ (b : List Cell). IsStone (at b c.args.place)) (sym c.self.view_is) c.requires)

pub split-requires-clause-cut : goal.split-requires-clause-cut
split-requires-clause-cut c =
    let s = c.self.inside.stones in
    let p = c.args.place in
    let stone = subst (λ (b : List Cell). IsStone (at b p)) (sym c.self.view_is) c.requires in
    subst (λ (t : BoardWithIds). IsCut t.board t.ids p c.id-id.result) (sym c.remove_stone.ensures)
    (IsCut-removed s.board s.ids p c.id-id.result stone c.self.invariant.framed c.self.invariant.ids
    c.id-id.ensures.value)

pub invariant_of-self-2 : goal.invariant_of-self-2
invariant_of-self-2 c =
    let s = c.self.inside.stones in
    let p = c.args.place in
    let stone = subst (λ (b : List Cell). IsStone (at b p)) (sym c.self.view_is) c.requires in
    record {
      framed =
          subst IsFramed (sym (c.split.ensures.board ∙ ap (λ (t : BoardWithIds). t.board) c.remove_stone.ensures))
          (IsFramed-set s.board p Empty (IsStone-point (at s.board p) stone) c.self.invariant.framed);
      ids = c.split.ensures.ids;
    }
