use Rattle.std.proofs.Common.{◌≢◌, ◌<◌, ◌≤◌, ℕ, subst}
use Rattle.std.specs.Prelude.{◌↔◌}
use Rattle.go_board.specs.private.Columns.{Has}
use Rattle.go_board.proofs.ColumnBits.{first_of, has-first, first-least, within}
use Rattle.go_board.proofs.ColumnBits.{without_first, has-without_first, small-without_first, less-without_first}
use Rattle.go_board.proofs.columns.Columns.pop_first.Goals as goal

pub invariant_of-self : goal.invariant_of-self
invariant_of-self c = small-without_first c.self.inside.bits c.self.invariant

pub returns : goal.returns
returns c =
    let bits : ℕ = c.self.inside.bits in
    let some = c.if-self-eq0.false in
    let has = has-first bits c.self.invariant some in (
      subst (λ (n : ℕ). Has n (first_of bits)) c.self.view_is has,
      within bits (first_of bits) c.self.invariant has,
      subst (λ (n : ℕ). without_first bits < n) c.self.view_is (less-without_first bits some),
      (λ k. subst (λ (n : ℕ). Has n k → first_of bits ≤ k) c.self.view_is
          (first-least bits k c.self.invariant some)),
      (λ k. subst (λ (n : ℕ). Has (without_first bits) k ↔ (Has n k × (k ≢ first_of bits))) c.self.view_is
          (has-without_first bits k c.self.invariant some)),
    )
