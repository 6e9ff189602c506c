-- The hashes of boards without a stone: those of two sizes differ, for the keys of all 25 sizes do.
use Rattle.std.proofs.Common.{◌≡◌, ℕ, zero, suc, ◌+◌, ◌-◌, ◌%◌, ◌^◌, ◌<◌, ◌≤◌, refl, sym, ◌∙◌, ap, subst}
use Rattle.std.proofs.Common.{arith, inl, inr, Bool, true, false, cond}
use Rattle.std.specs.Prelude.{nat_eq, ◌&&◌}
use Rattle.std.specs.List.{sum_by, range_with_len}
use Rattle.go_board.specs.Board.{at, empty_board, is_point}
use Rattle.go_board.specs.declared.board.Cell.TheVariants.{Edge, Empty}
use Rattle.go_board.specs.Hash.{mixed, key, size_key, key_of, hash_of}
use Rattle.go_board.specs.HashLaws.{EmptyBoardsHaveTheirOwnHash}
use Rattle.go_board.proofs.General.{earlier_or_last}
use Rattle.go_board.proofs.KeptHashes.{hash-weight}
use Rattle.go_board.proofs.StoneWeights.{weight}
use Rattle.go_board.proofs.Sums.{total-none}
use Rattle.go_board.proofs.boards.EmptyBoard.{at-empty_board}
use Rattle.std.proofs.lemmas.Bool.{eqb-true}
use Rattle.go_board.specs.declared.board.Cell.{Cell}

-- the size whose key this is
size_of : ℕ → ℕ
size_of k = sum_by (λ (s : ℕ). cond (nat_eq (size_key s % 2 ^ 64) k) s 0) (range_with_len 1 25)

is_found : ℕ → Bool
is_found s = nat_eq (size_of (size_key (s + 1) % 2 ^ 64)) (s + 1)

all_below : ℕ → Bool
all_below zero = true
all_below (suc n) = is_found n && all_below n

-- each size is found from its key
all-found : all_below 25 ≡ true
unfolding all_below is_found size_of size_key key mixed
all-found = refl

both-first : (a b : Bool) → a && b ≡ true → a ≡ true
both-first true b e = refl
both-first false b e = e

both-second : (a b : Bool) → a && b ≡ true → b ≡ true
both-second true b e = e
both-second false b e = cc

below-found : (n s : ℕ) → all_below n ≡ true → s < n → is_found s ≡ true
unfolding all_below
below-found zero s all less = absurd (omega (arith, less))
below-found (suc n) s all less = elim (earlier_or_last s n (omega (arith, less))) [
  | inl earlier ↦ below-found n s (both-second (is_found n) (all_below n) all) earlier
  | inr last ↦ subst (λ (k : ℕ). is_found k ≡ true) (sym last) (both-first (is_found n) (all_below n) all)
]

found : (s : ℕ) → 1 ≤ s → s ≤ 25 → size_of (size_key s % 2 ^ 64) ≡ s
unfolding is_found
found s least most =
    let test = below-found 25 (s - 1) all-found (omega (arith, least, most)) in
    let next : s - 1 + 1 ≡ s = omega (arith, least) in
    ap (λ (k : ℕ). size_of (size_key k % 2 ^ 64)) (sym next)
    ∙ eqb-true (size_of (size_key (s - 1 + 1) % 2 ^ 64)) (s - 1 + 1) test ∙ next

no-stone : (b : Bool) (q : ℕ) → key_of (cond b Empty Edge) q ≡ 0
no-stone true q = refl
no-stone false q = refl

-- no stone adds a key
hash-empty : (size : ℕ) → hash_of size (empty_board size) ≡ size_key size % 2 ^ 64
hash-empty size =
    let none = total-none (λ q. key_of (at (empty_board size) q) q) 702 (λ q below.
    ap (λ (x : Cell). key_of x q) (at-empty_board size q below) ∙ no-stone (is_point size q) q) in
    let all : size_key size + weight key_of (empty_board size) ≡ size_key size = omega (arith, none) in
    hash-weight size (empty_board size) ∙ ap (λ (sum : ℕ). sum % 2 ^ 64) all

pub own-hashes : EmptyBoardsHaveTheirOwnHash
own-hashes size other a b differ same =
    differ (sym (found size a.least a.most)
    ∙ ap size_of (sym (hash-empty size) ∙ same ∙ hash-empty other)
    ∙ found other b.least b.most)
