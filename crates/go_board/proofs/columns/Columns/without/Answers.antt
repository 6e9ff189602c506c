use Rattle.std.proofs.Common.{ℕ, bit_and, ◌-◌, subst}
use Rattle.std.specs.Prelude.{◌↔◌}
use Rattle.go_board.specs.private.Columns.{Has}
use Rattle.go_board.proofs.ColumnBits.{has-without}
use Rattle.go_board.proofs.columns.Columns.without.Goals as goal

pub returns : goal.returns
returns c k =
    let mine : ℕ = c.self.inside.bits in
    let theirs : ℕ = c.others.inside.bits in
    subst (λ (n : ℕ). Has (bit_and mine (4294967295 - theirs)) k ↔ (Has n k × ¬ Has c.args.others k)) c.self.view_is
    (subst (λ (n : ℕ). Has (bit_and mine (4294967295 - theirs)) k ↔ (Has mine k × ¬ Has n k)) c.others.view_is
    (has-without mine theirs k c.self.invariant c.others.invariant))
