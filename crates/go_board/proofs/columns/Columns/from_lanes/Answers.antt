use Rattle.std.proofs.Common.{ℕ, arith, sym, subst}
use Rattle.std.specs.Prelude.{◌↔◌, ◌≡◌, get_or}
use Rattle.go_board.specs.private.Columns.{Has, AreColumns}
use Rattle.go_board.proofs.ColumnBits.{mask-ones, has-ones, small-ones}
use Rattle.go_board.proofs.columns.Columns.from_lanes.Goals as goal

pub overflow_cast-result : goal.overflow_cast-result
overflow_cast-result c =
    let small = subst AreColumns (sym (mask-ones c.args.lanes c.requires)) (small-ones c.args.lanes c.requires) in
    record { fits = omega (arith, small) }

pub invariant_of-result : goal.invariant_of-result
invariant_of-result c =
    subst AreColumns (sym (mask-ones c.args.lanes c.requires)) (small-ones c.args.lanes c.requires)

pub returns : goal.returns
returns c k =
    subst (λ (n : ℕ). Has n k ↔ (get_or c.args.lanes k 0 ≡ 1)) (sym (mask-ones c.args.lanes c.requires))
    (has-ones c.args.lanes k)
