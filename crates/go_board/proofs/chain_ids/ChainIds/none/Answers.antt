use Rattle.std.proofs.Common.{ℕ, ◌<◌, refl, arith}
use Rattle.std.proofs.lemmas.List.Elements.{All-replicate}
use Rattle.go_board.proofs.chain_ids.ChainIds.none.Goals as goal

pub invariant_of-result : goal.invariant_of-result
invariant_of-result c =
    record { length_is = refl; below = All-replicate (λ (l : ℕ). l < 702) 702 0 (omega arith) }
