-- The words of a command.
use Rattle.std.proofs.Common.{◌≡◌, ℕ, ◌==◌, not, zero, suc, refl, arith}
use Rattle.std.specs.Prelude.{nat_lt}
use Rattle.std.proofs.lemmas.Grind.{common_steps}

pub not-empty : (n : ℕ) → not (n == 0) ≡ nat_lt 0 n
not-empty zero = refl
not-empty (suc n) = grind (arith, common_steps)
