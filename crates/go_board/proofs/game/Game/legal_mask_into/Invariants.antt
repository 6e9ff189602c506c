use Rattle.std.specs.Prelude.{◌↔◌, IsTrue}
use Rattle.go_base.specs.declared.vertices.Vertex.TheVariants.{At}
use Rattle.go_board.specs.Game.{IsLegal}
use Rattle.go_board.proofs.records.Tables.{IsTableBelow}
use Rattle.go_board.proofs.game.Game.legal_mask_into.Given as goal

abbrev pub invariant-loop-index : goal.invariant-loop-index
invariant-loop-index l =
    IsTableBelow (λ p mark. IsTrue mark ↔ IsLegal l.self l.colour (At p)) l.self.size l.index l.mask.items
