-- The stones that moves have taken.
use Rattle.std.specs.Prelude.{◌≡◌, ◌≢◌, ◌==◌, ℕ, ◌+◌, ◌<◌, List, [], ◌∷◌, ◌++◌, slice_set, map, filter}
use Rattle.std.specs.Prelude.{length, if◌then◌else◌}
use Rattle.std.specs.List.{range_with_len, AllByRecursion}
use Rattle.go_base.specs.Colour.{other}
use Rattle.go_base.specs.Point.{Neighbours}
use Rattle.go_base.specs.declared.moves.Move.{Move}
use Rattle.go_base.specs.declared.vertices.Vertex.{Vertex}
use Rattle.go_base.specs.declared.vertices.Vertex.TheVariants.{Pass, At}
use Rattle.go_board.specs.Game.{GameRecord, start, after}
use Rattle.go_base.specs.declared.colours.Colour.{Colour}
use Rattle.go_board.specs.declared.board.Cell.{Cell}
use Rattle.go_board.specs.declared.board.Cell.TheVariants.{Edge, Empty}
use Rattle.go_board.specs.declared.taken_stack.TakenStone.{TakenStone}
use Rattle.go_board.specs.Board.{at, stone}
use Rattle.go_board.specs.private.Frame.{IsFramed}
use Rattle.go_board.specs.Chain.{IsCaptured}
use Rattle.go_board.specs.Play.{is_captured}
use Rattle.go_board.specs.Taken.{captures_of_vertex}

-- how many taken stones there is room for
abbrev pub most_taken : ℕ
most_taken = 2009

-- the places of the stones of this colour that have no liberty
abbrev pub captured_places : List Cell → Colour → List ℕ
captured_places board c = filter (is_captured board c) (range_with_len 0 (length board))

-- the places on which these stones stood
abbrev pub places_of : List TakenStone → List ℕ
places_of stones = map (λ (t : TakenStone). t.place) stones

-- stones that one move took
abbrev pub taken_at : ℕ → List ℕ → List TakenStone
taken_at number places = map (λ place. record { place = place; number = number }) places

-- no neighbour has a stone of this colour without a liberty
abbrev pub AreNoneCaptured : List Cell → Colour → ℕ → Type 0
AreNoneCaptured board c p = (q : ℕ) → Neighbours p q → ¬ IsCaptured board c q

-- the places whose stones a move takes
abbrev pub taken_places : List Cell → Colour → Vertex → List ℕ
taken_places board c Pass = []
taken_places board c (At p) = captured_places (slice_set board p (stone c)) (other c)

-- the stones that moves take, from this board and this number of moves on
abbrev pub stack_from : List Cell → ℕ → List Move → List TakenStone
stack_from board n [] = []
stack_from board n (move ∷ moves) =
    taken_at n (taken_places board move.colour move.vertex) ++ stack_from (after board move) (n + 1) moves

-- the stones that the moves of the record have taken
unfoldable pub stack_of : GameRecord → List TakenStone
stack_of game = stack_from (start game.size game.handicap) 0 game.moves

-- a pass, or a play on an empty point
abbrev pub IsVacant : List Cell → Vertex → Type 0
IsVacant board Pass = Unit {0}
IsVacant board (At p) = at board p ≡ Empty

-- the last stone isn't one that the move with this number took
unfoldable pub IsNotLast : List TakenStone → ℕ → Type 0
IsNotLast stones number = (before : List TakenStone) (last : TakenStone) → stones ≡ before ++ last ∷ []
    → last.number ≢ number

-- The last stone was on this place and was taken by the move with this number, and the one under it wasn't. As later
-- moves lie above earlier ones, it is the only one that this move took.
pub record IsOnlyTaken (stones : List TakenStone) (number place : ℕ) : Type 0 where
  pub before : List TakenStone
  pub ends : stones ≡ before ++ record { place = place; number = number } ∷ []
  pub alone : IsNotLast before number

-- at the end of the stones these are all that the move with this number took
pub record AreLastOf (stones : List TakenStone) (number : ℕ) (last : List TakenStone) : Type 0 where
  pub before : List TakenStone
  pub ends : stones ≡ before ++ last
  pub own : AllByRecursion (λ t. t.number ≡ number) last
  pub all : IsNotLast before number

-- the board and the taken stones after a move, before which `number` others were made
pub record IsAfterMove (board : List Cell) (stones : List TakenStone) (move : Move) (number : ℕ) : Type 0 where
  pub before : List Cell
  pub earlier : List TakenStone
  pub framed : IsFramed before
  pub empty : IsVacant before move.vertex
  pub board_is : board ≡ after before move
  pub stones_are : stones ≡ earlier ++ taken_at number (taken_places before move.colour move.vertex)
  pub numbers : AllByRecursion (λ t. t.number < number) earlier

-- that move is unmade: the board and the taken stones are those before it, and it had taken `count`
abbrev pub IsUnmade : List Cell → List TakenStone → Move → ℕ → List Cell → List TakenStone → ℕ → Type 0
IsUnmade board stones move number new left count =
    (h : IsAfterMove board stones move number)
    → (new ≡ h.before) × (left ≡ h.earlier) × (count ≡ captures_of_vertex h.before move.colour move.vertex)

-- the board with stones like this set on these points, and nothing removed
abbrev pub with_stones : List Cell → Cell → List ℕ → List Cell
with_stones board this [] = board
with_stones board this (p ∷ ps) = slice_set (with_stones board this ps) p this

-- the stones at the end that the move with this number took stood on points that are empty, in the order of their
-- places
abbrev pub AreLastPoints : List Cell → List TakenStone → ℕ → Type 0
AreLastPoints board stones number =
    (before : List TakenStone) (p : ℕ) (later : List ℕ)
    → stones ≡ before ++ record { place = p; number = number } ∷ taken_at number later
    → (at board p ≡ Empty) × AllByRecursion (λ r. p < r) later

-- those stones were restored, as stones like this, and none is left
pub record IsRestored (board : List Cell) (this : Cell) (number : ℕ) (stones left : List TakenStone) (new : List Cell)
    (count : ℕ) : Type 0 where
  pub places : List ℕ
  pub board_is : new ≡ with_stones board this places
  pub stones_are : stones ≡ left ++ taken_at number places
  pub counted : count ≡ length places
  pub all : IsNotLast left number

-- ---- a move made again

-- the stones stood on points of the board
abbrev pub ArePoints : List Cell → List TakenStone → Type 0
ArePoints board stones = AllByRecursion (λ t. at board t.place ≢ Edge) stones

-- the board once the points are cleared of the stones at the front that the move with this number took
abbrev pub cleared : List Cell → ℕ → List TakenStone → List Cell
cleared board number [] = board
cleared board number (taken ∷ stones) =
    if taken.number == number then cleared (slice_set board taken.place Empty) number stones else board

-- the stones after those
abbrev pub later_than : ℕ → List TakenStone → List TakenStone
later_than number [] = []
later_than number (taken ∷ stones) = if taken.number == number then later_than number stones else taken ∷ stones

-- On this board the move, before which `number` others were made, took the stones at the front, and later moves the
-- others.
pub record AreTakenBy (board : List Cell) (c : Colour) (v : Vertex) (number : ℕ) (stones : List TakenStone) : Type 0
  where
    pub later : List TakenStone
    pub are : stones ≡ taken_at number (taken_places board c v) ++ later
    pub others : AllByRecursion (λ t. number < t.number) later
