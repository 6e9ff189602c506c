use Rattle.std.proofs.Common.{ℕ, Bool, subst}
use Rattle.std.specs.Prelude.{◌↔◌, IsTrue}
use Rattle.go_base.specs.declared.vertices.Vertex.TheVariants.{At}
use Rattle.go_board.specs.Game.{IsLegal}
use Rattle.go_board.specs.Index.{IsIndex}
use Rattle.go_board.proofs.records.Tables.{table-more}
use Rattle.go_board.proofs.game.Game.legal_mask_into.Goals as goal

pub loop-index-preserved : goal.loop-index-preserved
loop-index-preserved c =
    table-more {A = Bool} (λ p mark. IsTrue mark ↔ IsLegal c.args.self.now c.args.colour (At p)) c.args.self.now.size
    c.loop-index.index c.place_at.result c.loop-index.mask.items c.push.new.self.items c.is_legal_at.result
    c.loop-index.invariant
    (subst (λ (s : ℕ). IsIndex s c.place_at.result c.loop-index.index) c.size-size.ensures.size
    c.place_at.ensures.number)
    c.is_legal_at.ensures c.push.ensures.items
