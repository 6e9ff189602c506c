use Rattle.std.proofs.Common.{◌*◌}
use Rattle.go_board.specs.private.Areas.{AreOpenBelow, AreKnown}
use Rattle.go_board.proofs.board.Board.open_area.Given as goal

abbrev pub invariant-loop-row : goal.invariant-loop-row
invariant-loop-row l = record {
  so_far : AreOpenBelow l.self (26 * l.row) l.area;
  known_is : AreKnown l.self l.regions.known;
}
