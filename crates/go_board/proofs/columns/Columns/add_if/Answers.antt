use Rattle.std.proofs.Common.{◌≡◌, ℕ, subst}
use Rattle.std.specs.Prelude.{◌↔◌, ◌⊎◌, IsTrue}
use Rattle.go_board.specs.private.Columns.{Has}
use Rattle.go_board.proofs.ColumnBits.{with_one, has-with_one, small-with_one}
use Rattle.go_board.proofs.columns.Columns.add_if.Goals as goal

pub invariant_of-self : goal.invariant_of-self
invariant_of-self c = small-with_one c.self.inside.bits c.args.wanted c.args.column c.self.invariant c.requires

pub returns : goal.returns
returns c k =
    subst (λ (n : ℕ). Has (with_one c.self.inside.bits c.args.wanted c.args.column) k
    ↔ (Has n k ⊎ (IsTrue c.args.wanted × (k ≡ c.args.column))))
    c.self.view_is
    (has-with_one c.self.inside.bits c.args.wanted c.args.column k c.self.invariant c.requires)
