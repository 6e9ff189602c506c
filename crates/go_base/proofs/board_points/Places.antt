-- Places, and the columns and rows that they are.
use Rattle.std.proofs.Common.{ℕ, inl, inr, arith}
use Rattle.go_base.specs.Size.{most_size}
use Rattle.go_base.specs.Point.{IsOn, Neighbours, AreBeside, in_row, in_column}

-- neighbours on the mailbox board are beside each other
pub beside_from_neighbours : (p q : ℕ) → IsOn most_size p → IsOn most_size q → Neighbours p q → AreBeside p q
beside_from_neighbours p q a b (inl e) =
    let a1 = a.left in let a2 = a.right in let b1 = b.left in let b2 = b.right in
    in_row (omega arith) (inl (omega arith))
beside_from_neighbours p q a b (inr (inl e)) =
    let a1 = a.left in let a2 = a.right in let b1 = b.left in let b2 = b.right in
    in_row (omega arith) (inr (omega arith))
beside_from_neighbours p q a b (inr (inr (inl e))) = in_column (omega arith) (inl (omega arith))
beside_from_neighbours p q a b (inr (inr (inr e))) = in_column (omega arith) (inr (omega arith))

-- points that are beside each other are neighbours on the mailbox board
pub neighbours_from_beside : (p q : ℕ) → AreBeside p q → Neighbours p q
neighbours_from_beside p q (in_row same (inl e)) = inl (omega arith)
neighbours_from_beside p q (in_row same (inr e)) = inr (inl (omega arith))
neighbours_from_beside p q (in_column same (inl e)) = inr (inr (inl (omega arith)))
neighbours_from_beside p q (in_column same (inr e)) = inr (inr (inr (omega arith)))
