-- Laws of the game, as relations: which board a move leaves, what it takes, and what counts for whom. (Own rules of
-- play.)
use Rattle.std.specs.Prelude.{◌≡◌, ◌≢◌, ℕ, ℤ, pos, ◌≤◌, ◌+◌, ◌*ℤ◌, ◌-ℤ◌, ◌⊎◌, ◌↔◌, Bool, true, List, [], ◌∷◌, ◌++◌}
use Rattle.std.specs.Prelude.{Contains, length, slice_get, slice_set, Some}
use Rattle.std.specs.List.{AllPairs}
use Rattle.go_base.specs.Colour.{other}
use Rattle.go_base.specs.Handicap.{handicap_points}
use Rattle.go_base.specs.Point.{IsOn, Neighbours}
use Rattle.go_base.specs.declared.colours.Colour.{Colour}
use Rattle.go_base.specs.declared.colours.Colour.TheVariants as colour
use Rattle.go_base.specs.declared.vertices.Vertex.{Vertex}
use Rattle.go_base.specs.declared.vertices.Vertex.TheVariants.{Pass, At}
use Rattle.go_base.specs.declared.moves.Move.{Move}
use Rattle.go_board.specs.declared.board.Cell.{Cell}
use Rattle.go_board.specs.declared.board.Cell.TheVariants.{Edge, Empty, Black}
use Rattle.go_board.specs.Board.{place_count, at, stone, stone_at}
use Rattle.go_board.specs.Chain.{Joined, Touches, IsFree, IsCaptured}
use Rattle.go_board.specs.Game.{GameRecord, IsGame, IsLegal, board_of, first_moves, with_move}
use Rattle.go_board.specs.declared.rules.KoRule.{KoRule}
use Rattle.go_board.specs.declared.rules.KoRule.TheVariants.{Simple, Positional}
use Rattle.go_board.specs.Taken.{taken}
use Rattle.go_board.specs.Area.{score}

-- P holds of `many` numbers: some list has each of them once, and no other.
pub record IsOfSoMany (P : ℕ → Type 0) (many : ℕ) : Type 0 where
  pub list : List ℕ
  pub each : (q : ℕ) → Contains list q ↔ P q
  pub once : AllPairs (λ a b. a ≢ b) list
  pub long : many ≡ length list

-- ---- boards

-- A board before the first move: Black's stones on the handicap's points, the other points empty, and edge round them.
pub record IsFirstBoard (game : GameRecord) (board : List Cell) : Type 0 where
  pub long : length board ≡ place_count
  pub handicap : (q : ℕ) → Contains (handicap_points game.size game.handicap) q → at board q ≡ Black
  pub others : (q : ℕ) → IsOn game.size q → ¬ Contains (handicap_points game.size game.handicap) q → at board q ≡ Empty
  pub round : (q : ℕ) → ¬ IsOn game.size q → at board q ≡ Edge

-- A play of this colour on p takes the stone on q: it is one of the other colour, and with the new stone on the board
-- its chain has no liberty.
abbrev pub TakesStone : List Cell → Colour → ℕ → ℕ → Type 0
TakesStone board c p q = IsCaptured (slice_set board p (stone c)) (other c) q

-- What a play of this colour on p leaves: its stone on p, nothing where it took a stone, and all else as it was.
pub record IsLeftByPlay (old : List Cell) (c : Colour) (p : ℕ) (new : List Cell) : Type 0 where
  pub long : length new ≡ length old
  pub played : at new p ≡ stone c
  pub taken : (q : ℕ) → TakesStone old c p q → at new q ≡ Empty
  pub others : (q : ℕ) → q ≢ p → ¬ TakesStone old c p q → at new q ≡ at old q

-- what a move leaves; a pass changes nothing
abbrev pub IsLeftBy : List Cell → Colour → Vertex → List Cell → Type 0
IsLeftBy old c Pass new = new ≡ old
IsLeftBy old c (At p) new = IsLeftByPlay old c p new

-- a game without moves has just this board
abbrev pub FirstBoardsAreJustThese : Type 0
FirstBoardsAreJustThese = (game : GameRecord) (board : List Cell) → IsGame game → game.moves ≡ []
    → (board ≡ board_of game) ↔ IsFirstBoard game board

-- a legal move leaves just this board
abbrev pub BoardsLeftAreJustThese : Type 0
BoardsLeftAreJustThese = (game : GameRecord) (c : Colour) (v : Vertex) (board : List Cell) → IsLegal game c v
    → (board ≡ board_of (with_move game c v)) ↔ IsLeftBy (board_of game) c v board

-- a stone is on a point of the board's size, and nowhere else
abbrev pub StonesAreOnTheBoard : Type 0
StonesAreOnTheBoard = (game : GameRecord) (p : ℕ) (c : Colour) → IsGame game → stone_at (board_of game) p ≡ Some c
    → IsOn game.size p

-- ---- ko rules

-- the game under this ko rule
abbrev pub under : KoRule → GameRecord → GameRecord
under rule game = record game { rule = rule }

-- what is legal under positional ko is legal under simple ko
abbrev pub PositionalIsStricter : Type 0
PositionalIsStricter = (game : GameRecord) (c : Colour) (v : Vertex) → IsLegal (under Positional game) c v
    → IsLegal (under Simple game) c v

-- what is legal under simple ko, and leaves a board that the game had at no time, is legal under positional ko
abbrev pub NewBoardsAreAllowed : Type 0
NewBoardsAreAllowed = (game : GameRecord) (c : Colour) (v : Vertex) → IsLegal (under Simple game) c v
    → ((j : ℕ) → j ≤ length game.moves → board_of (with_move game c v) ≢ board_of (first_moves j game))
    → IsLegal (under Positional game) c v

-- Under positional ko no play leaves a board that the game had before: neither that before the first move nor one after
-- any earlier move.
abbrev pub NoBoardComesBack : Type 0
NoBoardComesBack = (game : GameRecord) (j k p : ℕ) (c : Colour) → IsGame game → game.rule ≡ Positional → j ≤ k
    → slice_get game.moves k ≡ Some (record { colour = c; vertex = At p })
    → board_of (first_moves (k + 1) game) ≢ board_of (first_moves j game)

-- Under simple ko no play leaves the board before the previous move.
abbrev pub NoBoardComesBackAtOnce : Type 0
NoBoardComesBackAtOnce = (game : GameRecord) (k p : ℕ) (c : Colour) → IsGame game → game.rule ≡ Simple
    → slice_get game.moves (k + 1) ≡ Some (record { colour = c; vertex = At p })
    → board_of (first_moves (k + 2) game) ≢ board_of (first_moves k game)

-- A play on an empty point of the board, whose stone is free on the board that it leaves, is legal under simple ko
-- where that isn't the board of the record without its last move.
abbrev pub OtherPlaysAreLegal : Type 0
OtherPlaysAreLegal = (game : GameRecord) (c : Colour) (p : ℕ) → IsOn game.size p → at (board_of game) p ≡ Empty
    → IsFree (board_of (with_move game c (At p))) p
    → ((front : List Move) (last : Move) → game.moves ≡ front ++ last ∷ []
    → board_of (with_move game c (At p)) ≢ board_of (record game { moves = front }))
    → IsLegal (under Simple game) c (At p)

-- ---- chains, regions and liberties, in words of sets

-- The set has p, and with each of its points each neighbour that holds the same as p.
pub record IsClosed (board : List Cell) (p : ℕ) (set : ℕ → Bool) : Type 0 where
  pub start : set p ≡ true
  pub next : (q r : ℕ) → set q ≡ true → Neighbours q r → at board r ≡ at board p → set r ≡ true

-- Some such set has no point with a neighbour that holds this.
pub record IsAwayFrom (board : List Cell) (p : ℕ) (this : Cell) : Type 0 where
  pub set : ℕ → Bool
  pub closed : IsClosed board p set
  pub away : (q r : ℕ) → set q ≡ true → Neighbours q r → at board r ≢ this

-- the chain or region of a point is the smallest such set
abbrev pub JoinedPointsAreTheSmallestSet : Type 0
JoinedPointsAreTheSmallestSet = (board : List Cell) (p q : ℕ) → at board p ≢ Edge
    → Joined board p q ↔ ((set : ℕ → Bool) → IsClosed board p set → set q ≡ true)

-- it touches nothing that holds this exactly where some such set is away from it
abbrev pub UntouchedIsAway : Type 0
UntouchedIsAway = (board : List Cell) (p : ℕ) (this : Cell) → at board p ≢ Edge
    → (¬ Touches board p this) ↔ IsAwayFrom board p this

-- a stone is captured exactly where some such set has no point beside an empty one
abbrev pub CapturedStonesAreShutIn : Type 0
CapturedStonesAreShutIn = (board : List Cell) (c : Colour) (p : ℕ)
    → IsCaptured board c p ↔ ((at board p ≡ stone c) × IsAwayFrom board p Empty)

-- ---- taken stones

-- a move takes the stone on q; a pass takes none
abbrev pub MoveTakes : List Cell → Colour → Vertex → ℕ → Type 0
MoveTakes board c Pass q = ⊥
MoveTakes board c (At p) q = TakesStone board c p q

-- before the first move neither colour has taken a stone
abbrev pub NoneIsTakenFirst : Type 0
NoneIsTakenFirst = (game : GameRecord) (c : Colour) → game.moves ≡ [] → taken game c ≡ 0

-- A move adds the stones that it takes to those that its colour has taken, and none to those of the other.
pub record AddsTaken (game : GameRecord) (c : Colour) (v : Vertex) : Type 0 where
  pub many : ℕ
  pub are : IsOfSoMany (MoveTakes (board_of game) c v) many
  pub own : taken (with_move game c v) c ≡ taken game c + many
  pub others : taken (with_move game c v) (other c) ≡ taken game (other c)

abbrev pub MovesAddWhatTheyTake : Type 0
MovesAddWhatTheyTake = (game : GameRecord) (c : Colour) (v : Vertex) → AddsTaken game c v

-- ---- area and score

-- A point belongs to a colour that has a stone on it. An empty one belongs to a colour where its region has a stone
-- beside it and all stones beside it are of that colour.
abbrev pub BelongsTo : List Cell → Colour → ℕ → Type 0
BelongsTo board c p =
    (at board p ≡ stone c)
    ⊎ ((at board p ≡ Empty) × Touches board p (stone c) × ((d : Colour) → Touches board p (stone d) → d ≡ c))

-- The score is twice the difference of the numbers of points that belong to the colours, less komi.
pub record IsScore (game : GameRecord) (result : ℤ) : Type 0 where
  pub black : ℕ
  pub white : ℕ
  pub black_is : IsOfSoMany (BelongsTo (board_of game) colour.Black) black
  pub white_is : IsOfSoMany (BelongsTo (board_of game) colour.White) white
  pub result_is : result ≡ (pos 2 *ℤ (pos black -ℤ pos white)) -ℤ game.komi

abbrev pub ScoresAreThese : Type 0
ScoresAreThese = (game : GameRecord) → IsGame game → IsScore game (score game)
