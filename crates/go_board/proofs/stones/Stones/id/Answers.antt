use Rattle.std.proofs.Common.{◌∙◌, subst, sym}
use Rattle.go_board.specs.Board.{at, IsStone}
use Rattle.go_board.specs.private.ChainId.{BoardWithIds}
use Rattle.go_board.proofs.stones.Stones.id.Goals as goal

pub returns-clause-named : goal.returns-clause-named
returns-clause-named c stone nought =
    c.self.invariant.named c.args.place
    (subst (λ (s : BoardWithIds). IsStone (at s.board c.args.place)) (sym c.self.view_is) stone)
    (sym c.at.ensures.value ∙ nought)
