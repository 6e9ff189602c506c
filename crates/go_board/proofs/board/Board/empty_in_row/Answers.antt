use Rattle.std.proofs.Common.{refl, arith}
use Rattle.go_board.proofs.ColumnBits.{zeros}
use Rattle.go_board.proofs.board.Board.empty_in_row.Goals as goal

pub loop-column-init : goal.loop-column-init
loop-column-init c = (
  refl,
  (λ k. (
    (λ one. let none = zeros 32 k in absurd (omega (arith, none, one))),
    (λ none. let low = none.0 in absurd (omega (arith, low))),
  )),
)
