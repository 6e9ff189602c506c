use Rattle.std.proofs.Common.{◌≡◌, ◌≤◌}
use Rattle.go_board.specs.Board.{at}
use Rattle.go_board.specs.private.Areas.{one_of}
use Rattle.go_board.proofs.Sums.{total}
use Rattle.go_board.proofs.board.Board.stones_of.Given as goal

abbrev pub invariant-loop-place : goal.invariant-loop-place
invariant-loop-place l = record {
  few : l.count ≤ l.place;
  counted : l.count ≡ total (λ p. one_of l.colour (at l.self p)) l.place;
}
