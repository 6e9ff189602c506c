-- The sum of the keys of a board's size and stones, place by place.
use Rattle.std.proofs.Common.{◌≡◌, ℕ, ◌+◌, ◌%◌, ◌^◌, ◌<◌, List, refl, ◌∙◌, ap, arith}
use Rattle.std.proofs.Math.Nat.{mod-add-mod, mod-eq_of_lt}
use Rattle.go_board.specs.Board.{at, place_count}
use Rattle.go_board.specs.Hash.{key_of, size_key, hash_of}
use Rattle.go_board.specs.declared.board.Cell.{Cell}
use Rattle.go_board.proofs.Sums.{total, total-zero, total-more}

-- the sum over the places below n, with the key of the size, in 64 bits
unfoldable pub hash_below : ℕ → List Cell → ℕ → ℕ
hash_below size board n = (size_key size + total (λ p. key_of (at board p) p) n) % 2 ^ 64

pub hash_below-none : (size : ℕ) (board : List Cell) → size_key size < 2 ^ 64
    → hash_below size board 0 ≡ size_key size
unfolding hash_below
hash_below-none size board less =
    let none : size_key size + total (λ p. key_of (at board p) p) 0 ≡ size_key size =
    omega (arith, total-zero (λ p. key_of (at board p) p)) in
    ap (λ (sum : ℕ). sum % 2 ^ 64) none ∙ mod-eq_of_lt less

pub hash_below-more : (size : ℕ) (board : List Cell) (n : ℕ)
    → (hash_below size board n + key_of (at board n) n) % 2 ^ 64 ≡ hash_below size board (n + 1)
unfolding hash_below
hash_below-more size board n =
    let more : size_key size + total (λ p. key_of (at board p) p) n + key_of (at board n) n
    ≡ size_key size + total (λ p. key_of (at board p) p) (n + 1) =
    omega (arith, total-more (λ p. key_of (at board p) p) n) in
    mod-add-mod (size_key size + total (λ p. key_of (at board p) p) n) (2 ^ 64) (key_of (at board n) n)
    ∙ ap (λ (sum : ℕ). sum % 2 ^ 64) more

pub hash_below-all : (size : ℕ) (board : List Cell) → hash_below size board place_count ≡ hash_of size board
unfolding hash_below hash_of total
hash_below-all size board = refl
