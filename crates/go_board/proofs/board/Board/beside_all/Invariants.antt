use Rattle.std.specs.Prelude.{◌↔◌, IsTrue}
use Rattle.go_board.specs.declared.board.Cell.TheVariants.{Black, White}
use Rattle.go_board.proofs.floods.Beside.{HasBelow}
use Rattle.go_board.proofs.board.Board.beside_all.Given as goal

abbrev pub invariant-loop-index : goal.invariant-loop-index
invariant-loop-index l = record {
  black : IsTrue l.black ↔ HasBelow l.self l.places Black l.index;
  white : IsTrue l.white ↔ HasBelow l.self l.places White l.index;
}
