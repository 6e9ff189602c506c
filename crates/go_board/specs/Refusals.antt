-- Why a call of a game is refused: the first cause, in the order of checking.
use Rattle.std.specs.Prelude.{◌≡◌, ◌≢◌, ℕ, ◌<◌, ◌≤◌, ◌⊎◌, length}
use Rattle.go_base.specs.Point.{IsOn}
use Rattle.go_base.specs.Handicap.{AllowsHandicap}
use Rattle.go_base.specs.declared.colours.Colour.{Colour}
use Rattle.go_base.specs.declared.vertices.Vertex.{Vertex}
use Rattle.go_base.specs.declared.vertices.Vertex.TheVariants.{Pass, At}
use Rattle.go_board.specs.declared.board.Cell.TheVariants.{Empty}
use Rattle.go_board.specs.declared.faults.HandicapFault.{HandicapFault}
use Rattle.go_board.specs.declared.faults.HandicapFault.TheVariants.{NotEmpty, BadNumber}
use Rattle.go_board.specs.declared.faults.PlayFault.{PlayFault}
use Rattle.go_board.specs.declared.faults.PlayFault.TheVariants.{Full, OffBoard, Occupied, Suicide, Ko}
use Rattle.go_board.specs.Board.{at, HasStone}
use Rattle.go_board.specs.Chain.{IsFree}
use Rattle.go_board.specs.Play.{play}
use Rattle.go_board.specs.Game.{GameRecord, most_moves, HasRoom, board_of, Repeats}

-- why a play on a point is refused where the record has room: each cause leaves out those that are checked before it
abbrev pub RefusesPoint : GameRecord → Colour → ℕ → PlayFault → Type 0
RefusesPoint game c p Full = ⊥
RefusesPoint game c p OffBoard = ¬ IsOn game.size p
RefusesPoint game c p Occupied = IsOn game.size p × (at (board_of game) p ≢ Empty)
RefusesPoint game c p Suicide =
    IsOn game.size p × ((at (board_of game) p ≡ Empty) × ¬ IsFree (play (board_of game) c p) p)
RefusesPoint game c p Ko =
    IsOn game.size p × ((at (board_of game) p ≡ Empty)
    × (IsFree (play (board_of game) c p) p × Repeats game (play (board_of game) c p)))

-- why a move is refused where the record has room: a pass never is
abbrev pub RefusesVertex : GameRecord → Colour → Vertex → PlayFault → Type 0
RefusesVertex game c Pass fault = ⊥
RefusesVertex game c (At p) fault = RefusesPoint game c p fault

-- why a move is refused: a full record comes before every other cause
abbrev pub Refuses : GameRecord → Colour → Vertex → PlayFault → Type 0
Refuses game c v Full = most_moves ≤ length game.moves
Refuses game c v OffBoard = HasRoom game × RefusesVertex game c v OffBoard
Refuses game c v Occupied = HasRoom game × RefusesVertex game c v Occupied
Refuses game c v Suicide = HasRoom game × RefusesVertex game c v Suicide
Refuses game c v Ko = HasRoom game × RefusesVertex game c v Ko

-- a stone on the board, or a move in the record
abbrev pub IsTouched : GameRecord → Type 0
IsTouched game = HasStone (board_of game) ⊎ (0 < length game.moves)

-- why a handicap is refused: a board that was touched comes before a number that the size doesn't allow
abbrev pub RefusesHandicap : GameRecord → ℕ → HandicapFault → Type 0
RefusesHandicap game stones NotEmpty = IsTouched game
RefusesHandicap game stones BadNumber = (¬ IsTouched game) × ¬ AllowsHandicap game.size stones
