-- A hash of a board and its size: the sum of the keys of the size and of the stones, in 64 bits. (Zobrist's, with sums:
-- a stone that comes or goes changes it by its key alone.)
--
-- Each key is that of a number of its own: 0 to 1,403 are of stones and 1,405 to 1,429 of sizes. A position's hash has
-- two kinds more: 1,430 and 1,431 are of the colours to move, and the numbers from 1,432 on of ko points.
use Rattle.std.specs.Prelude.{ℕ, ◌+◌, ◌*◌, ◌/◌, ◌%◌, ◌^◌, List, bit_xor}
use Rattle.std.specs.List.{sum_by, range_with_len}
use Rattle.go_base.specs.declared.colours.Colour.{Colour}
use Rattle.go_base.specs.declared.colours.Colour.TheVariants as colour
use Rattle.go_board.specs.declared.board.Cell.{Cell}
use Rattle.go_board.specs.declared.board.Cell.TheVariants.{Edge, Empty, Black, White}
use Rattle.go_board.specs.Board.{place_count, at}

-- the bits of a number, mixed: as the generator SplitMix64 does it
unfoldable pub mixed : ℕ → ℕ
mixed a =
    let b = (bit_xor a (a / 2 ^ 30) * 13787848793156543929) % 2 ^ 64 in
    let c = (bit_xor b (b / 2 ^ 27) * 10723151780598845931) % 2 ^ 64 in
    bit_xor c (c / 2 ^ 31)

-- the key of a number: a draw of that generator
unfoldable pub key : ℕ → ℕ
key number = mixed ((number * 11400714819323198485) % 2 ^ 64)

-- the number of a stone: two for each place
abbrev pub stone_number : Colour → ℕ → ℕ
stone_number colour.Black p = 2 * p
stone_number colour.White p = 2 * p + 1

-- the key of a stone of this colour on a point
unfoldable pub stone_key : Colour → ℕ → ℕ
stone_key c p = key (stone_number c p)

-- what a place adds: the key of its stone, where it has one
abbrev pub key_of : Cell → ℕ → ℕ
key_of Black p = stone_key colour.Black p
key_of White p = stone_key colour.White p
key_of Empty p = 0
key_of Edge p = 0

-- the key of a size: its number comes after those of all stones
unfoldable pub size_key : ℕ → ℕ
size_key size = key (2 * place_count + size)

-- the hash of a board of this size
unfoldable pub hash_of : ℕ → List Cell → ℕ
hash_of size board =
    (size_key size + sum_by (λ p. key_of (at board p) p) (range_with_len 0 place_count)) % 2 ^ 64
