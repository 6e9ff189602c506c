-- What equal boards and positions have in common.
use Rattle.std.proofs.Common.{◌≡◌, ℕ, ◌+◌, ◌%◌, ◌^◌, refl, sym, ◌∙◌, ap, arith}
use Rattle.std.proofs.Math.Nat.{mod-add-mod}
use Rattle.std.specs.Prelude.{◌↔◌, List, Option, Some, None}
use Rattle.go_base.specs.declared.colours.Colour.{Colour}
use Rattle.go_board.specs.declared.board.Cell.{Cell}
use Rattle.go_board.specs.Game.{GameRecord, board_of}
use Rattle.go_board.specs.Hash.{hash_of}
use Rattle.go_board.specs.HashLaws.{EqualBoardsHaveOneHash, EqualPositionsHaveOneHash}
use Rattle.go_board.specs.KoPoint.{IsKoPoint, IsOnlyKoPoint}
use Rattle.go_board.specs.PositionHash.{IsPositionHash, position_hash, mover_key, ko_key}

pub equal-boards : EqualBoardsHaveOneHash
equal-boards game other size board =
    ap (λ (n : ℕ). hash_of n (board_of game)) size ∙ ap (hash_of other.size) board

-- two that are the only ko points are one
one-ko : (game other : GameRecord) (c : Colour) (a b : Option ℕ)
    → ((p : ℕ) → IsKoPoint game c p ↔ IsKoPoint other c p) → IsOnlyKoPoint game c a → IsOnlyKoPoint other c b → a ≡ b
one-ko game other c None None same one another = refl
one-ko game other c None (Some q) same one another =
    absurd (one q ((same q).1 ((another q).1 refl)))
one-ko game other c (Some p) None same one another =
    absurd (another p ((same p).0 ((one p).1 refl)))
one-ko game other c (Some p) (Some q) same one another =
    ap Some ((another p).0 ((same p).0 ((one p).1 refl)))

pub equal-positions : EqualPositionsHaveOneHash
equal-positions game other c hash one size board same a b =
    a.hash_is
    ∙ ap (λ (n : ℕ). position_hash n (board_of game) c a.ko) size
    ∙ ap (λ (cells : List Cell). position_hash other.size cells c a.ko) board
    ∙ ap (position_hash other.size (board_of other) c) (one-ko game other c a.ko b.ko same a.ko_is b.ko_is)
    ∙ sym b.hash_is

-- ---- the sum of a position's keys

pub hash-with_ko : (game : GameRecord) (c : Colour) (hash mover ko p : ℕ) → hash ≡ hash_of game.size (board_of game)
    → mover ≡ mover_key c → ko ≡ ko_key p → IsOnlyKoPoint game c (Some p)
    → IsPositionHash game c (((hash + mover) % 2 ^ 64 + ko) % 2 ^ 64)
unfolding position_hash
hash-with_ko game c hash mover ko p is moves at_ko only = record {
  ko = Some p;
  ko_is = only;
  hash_is =
      mod-add-mod (hash + mover) (2 ^ 64) ko
      ∙ ap (λ (n : ℕ). (n + mover + ko) % 2 ^ 64) is
      ∙ ap (λ (n : ℕ). (hash_of game.size (board_of game) + n + ko) % 2 ^ 64) moves
      ∙ ap (λ (n : ℕ). (hash_of game.size (board_of game) + mover_key c + n) % 2 ^ 64) at_ko;
}

pub hash-without_ko : (game : GameRecord) (c : Colour) (hash mover : ℕ) → hash ≡ hash_of game.size (board_of game)
    → mover ≡ mover_key c → IsOnlyKoPoint game c None → IsPositionHash game c ((hash + mover) % 2 ^ 64)
unfolding position_hash
hash-without_ko game c hash mover is moves only =
    let all : hash + mover ≡ hash_of game.size (board_of game) + mover_key c + 0 = omega (arith, is, moves) in
    record { ko = None; ko_is = only; hash_is = ap (λ (n : ℕ). n % 2 ^ 64) all }
