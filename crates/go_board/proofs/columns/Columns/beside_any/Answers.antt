use Rattle.std.proofs.Common.{ℕ, subst}
use Rattle.std.specs.Prelude.{◌↔◌}
use Rattle.go_board.specs.private.Columns.{Has, IsBesideAny}
use Rattle.go_board.proofs.ColumnBits.{beside_any, has-beside_any}
use Rattle.go_board.proofs.columns.Columns.beside_any.Goals as goal

pub returns : goal.returns
returns c k =
    let mine : ℕ = c.self.inside.bits in
    let b : ℕ = c.below.inside.bits in
    let a : ℕ = c.above.inside.bits in
    subst (λ (n : ℕ). Has (beside_any mine b a) k ↔ (Has n k × IsBesideAny n c.args.below c.args.above k))
    c.self.view_is
    (subst (λ (n : ℕ). Has (beside_any mine b a) k ↔ (Has mine k × IsBesideAny mine n c.args.above k)) c.below.view_is
    (subst (λ (n : ℕ). Has (beside_any mine b a) k ↔ (Has mine k × IsBesideAny mine b n k)) c.above.view_is
    (has-beside_any mine b a k c.self.invariant)))
