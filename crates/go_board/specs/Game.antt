-- A game is its size, komi, ko rule, handicap and moves: its board and what is legal next are made from the whole list
-- of moves.
use Rattle.std.specs.Prelude.{◌≡◌, ℕ, ℤ, pos, ◌-◌, ◌≤◌, ◌<◌, ◌⊎◌, List, [], ◌∷◌, ◌++◌, length, take, slice_get, Some}
use Rattle.std.specs.List.{fold}
use Rattle.go_base.specs.Handicap.{handicap_points, AllowsHandicap}
use Rattle.go_base.specs.Komi.{IsKomi}
use Rattle.go_base.specs.Point.{IsOn}
use Rattle.go_base.specs.Size.{IsSize}
use Rattle.go_base.specs.declared.colours.Colour.{Colour}
use Rattle.go_base.specs.declared.vertices.Vertex.{Vertex}
use Rattle.go_base.specs.declared.vertices.Vertex.TheVariants.{Pass, At}
use Rattle.go_base.specs.declared.moves.Move.{Move}
use Rattle.go_board.specs.declared.board.Cell.{Cell}
use Rattle.go_board.specs.declared.board.Cell.TheVariants.{Empty}
use Rattle.go_board.specs.declared.rules.KoRule.{KoRule}
use Rattle.go_board.specs.declared.rules.KoRule.TheVariants.{Simple, Positional}
use Rattle.go_board.specs.Board.{at, empty_board, with_black}
use Rattle.go_board.specs.Chain.{IsFree}
use Rattle.go_board.specs.Play.{play}

-- what a game is: its komi is in half points, and its handicap is 0 where there is none
pub record GameRecord : Type 0 where
  pub size : ℕ
  pub komi : ℤ
  pub rule : KoRule
  pub handicap : ℕ
  pub moves : List Move

-- the game of an engine with this ko rule that was given nothing: size 19, komi 0, no handicap and no moves
abbrev pub fresh_game_under : KoRule → GameRecord
fresh_game_under rule = record { size = 19; komi = pos 0; rule = rule; handicap = 0; moves = [] }

-- how many moves a record has room for
abbrev pub most_moves : ℕ
most_moves = 2000

-- there is room for a move more
abbrev pub HasRoom : GameRecord → Type 0
HasRoom game = length game.moves < most_moves

-- the game of its first `n` moves
abbrev pub first_moves : ℕ → GameRecord → GameRecord
first_moves n game = record game { moves = take n game.moves }

-- the game without its last move
abbrev pub without_last : GameRecord → GameRecord
without_last game = first_moves (length game.moves - 1) game

-- the game with one move more
abbrev pub with_move : GameRecord → Colour → Vertex → GameRecord
with_move game c v = record game { moves = game.moves ++ record { colour = c; vertex = v } ∷ [] }

-- ---- the board

-- the board before the first move: Black's stones on the handicap's points
unfoldable pub start : ℕ → ℕ → List Cell
start size handicap = with_black (empty_board size) (handicap_points size handicap)

-- the board after a colour plays a vertex
abbrev pub after_vertex : List Cell → Colour → Vertex → List Cell
after_vertex board c Pass = board
after_vertex board c (At p) = play board c p

-- the board after a move; a pass changes nothing
abbrev pub after : List Cell → Move → List Cell
after board move = after_vertex board move.colour move.vertex

-- the board of a list of moves
unfoldable pub board : ℕ → ℕ → List Move → List Cell
board size handicap moves = fold after (start size handicap) moves

-- the board of a game: that of its whole list of moves
abbrev pub board_of : GameRecord → List Cell
board_of game = board game.size game.handicap game.moves

-- ---- what is legal

-- Simple ko: the board would be as it was before the last move of the game, for which a pass is a move too. Before the
-- first move no board would.
pub record RepeatsLast (game : GameRecord) (next : List Cell) : Type 0 where
  pub moved : 0 < length game.moves
  pub same : next ≡ board_of (without_last game)

-- Positional superko: the board would be as it was after some number of the game's first moves, none of them, some, or
-- all.
pub record RepeatsAny (game : GameRecord) (next : List Cell) : Type 0 where
  pub number : ℕ
  pub within : number ≤ length game.moves
  pub same : next ≡ board_of (first_moves number game)

-- the board would be one that this ko rule forbids
abbrev pub RepeatsBy : KoRule → GameRecord → List Cell → Type 0
RepeatsBy Simple game next = RepeatsLast game next
RepeatsBy Positional game next = RepeatsAny game next

-- the board would be one that the game's ko rule forbids
abbrev pub Repeats : GameRecord → List Cell → Type 0
Repeats game next = RepeatsBy game.rule game next

-- the point is on the board and empty, the new stone's chain has a liberty once the other colour's stones without one
-- are removed, and the play is no ko
pub record IsLegalPlay (game : GameRecord) (c : Colour) (p : ℕ) : Type 0 where
  pub on_board : IsOn game.size p
  pub empty : at (board_of game) p ≡ Empty
  pub free : IsFree (play (board_of game) c p) p
  pub no_ko : ¬ Repeats game (play (board_of game) c p)

-- a move is legal: a pass always is
abbrev pub IsLegal : GameRecord → Colour → Vertex → Type 0
IsLegal game c Pass = Unit {0}
IsLegal game c (At p) = IsLegalPlay game c p

-- size, komi and handicap are in their limits, and each move is legal in the game of the moves before it
pub record IsGame (game : GameRecord) : Type 0 where
  pub size : IsSize game.size
  pub komi : IsKomi game.komi
  pub handicap : (game.handicap ≡ 0) ⊎ AllowsHandicap game.size game.handicap
  pub few : length game.moves ≤ most_moves
  pub legal : (k : ℕ) (move : Move) → slice_get game.moves k ≡ Some move
      → IsLegal (first_moves k game) move.colour move.vertex

-- ---- the end

-- the last two moves are passes
pub record IsFinished (game : GameRecord) : Type 0 where
  pub before : List Move
  pub first : Colour
  pub second : Colour
  pub ends : game.moves
      ≡ before ++ record { colour = first; vertex = Pass } ∷ record { colour = second; vertex = Pass } ∷ []
