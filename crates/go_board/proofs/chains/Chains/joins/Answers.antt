use Rattle.std.proofs.Common.{sym, subst}
use Rattle.go_board.specs.Board.{IsStone}
use Rattle.go_board.specs.declared.board.Cell.{Cell}
use Rattle.go_board.proofs.ids.Paths.{IsStone-joined}
use Rattle.go_board.proofs.chains.Chains.joins.Goals as goal

pub returns-else-is_stone : goal.returns-else-is_stone
returns-else-is_stone c = (
  (λ yes. let not_one = c.if-is_stone.false in cc),
  (λ path. c.is_stone.ensures.fact.1 (subst (λ (x : Cell). IsStone x) (sym c.at.ensures)
      (IsStone-joined c.args.self.now c.args.stone c.args.place path c.requires.stone))),
)
