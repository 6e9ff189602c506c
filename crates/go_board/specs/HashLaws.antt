-- Laws of hashes: what equal games have in common. Nothing is said of games whose hashes are equal.
use Rattle.std.specs.Prelude.{◌≡◌, ◌≢◌, ℕ, ◌↔◌}
use Rattle.go_base.specs.Size.{IsSize}
use Rattle.go_base.specs.declared.colours.Colour.{Colour}
use Rattle.go_board.specs.Board.{empty_board}
use Rattle.go_board.specs.Game.{GameRecord, board_of}
use Rattle.go_board.specs.Hash.{hash_of}
use Rattle.go_board.specs.KoPoint.{IsKoPoint}
use Rattle.go_board.specs.PositionHash.{IsPositionHash}

-- Games of equal size and with equal boards have one hash, whatever else differs. So where the hashes differ, the
-- sizes or the boards do.
abbrev pub EqualBoardsHaveOneHash : Type 0
EqualBoardsHaveOneHash = (game other : GameRecord) → game.size ≡ other.size → board_of game ≡ board_of other
    → hash_of game.size (board_of game) ≡ hash_of other.size (board_of other)

-- So have their positions with one colour to move, where a point is a ko point of it in both or in neither.
abbrev pub EqualPositionsHaveOneHash : Type 0
EqualPositionsHaveOneHash = (game other : GameRecord) (c : Colour) (hash one : ℕ) → game.size ≡ other.size
    → board_of game ≡ board_of other → ((p : ℕ) → IsKoPoint game c p ↔ IsKoPoint other c p)
    → IsPositionHash game c hash → IsPositionHash other c one → hash ≡ one

-- The boards without a stone of two sizes have two hashes.
abbrev pub EmptyBoardsHaveTheirOwnHash : Type 0
EmptyBoardsHaveTheirOwnHash = (size other : ℕ) → IsSize size → IsSize other → size ≢ other
    → hash_of size (empty_board size) ≢ hash_of other (empty_board other)
