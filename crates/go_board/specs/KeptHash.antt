-- A hash that is kept from move to move.
use Rattle.std.specs.Prelude.{◌≡◌, ℕ, ◌+◌, ◌%◌, ◌^◌, List}
use Rattle.std.specs.List.{sum_by}
use Rattle.go_base.specs.Colour.{other}
use Rattle.go_base.specs.declared.colours.Colour.{Colour}
use Rattle.go_base.specs.declared.vertices.Vertex.TheVariants.{At}
use Rattle.go_board.specs.Game.{GameRecord, IsGame, IsLegal, board_of, with_move}
use Rattle.go_board.specs.Hash.{hash_of, stone_key}
use Rattle.go_board.specs.LastTaken.{AreTakenByLast}

-- The hash after a play, with the keys of the stones that it took, is the hash before it with the key of its own stone,
-- in 64 bits.
abbrev pub HashesFollowPlays : Type 0
HashesFollowPlays = (game : GameRecord) (c : Colour) (p : ℕ) (taken : List ℕ) → IsGame game → IsLegal game c (At p)
    → AreTakenByLast (with_move game c (At p)) taken
    → (hash_of game.size (board_of (with_move game c (At p))) + sum_by (stone_key (other c)) taken) % 2 ^ 64
    ≡ (hash_of game.size (board_of game) + stone_key c p) % 2 ^ 64
