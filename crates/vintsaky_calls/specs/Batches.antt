-- The calls over many games: what each does to one game, and to all of them.
use Rattle.std.specs.Prelude.{◌≡◌, ◌≢◌, ℕ, ℤ, pos, ◌+◌, ◌-◌, ◌*◌, ◌<◌, ◌≤◌, ◌⊎◌, List, [], ◌∷◌, ◌++◌, length}
use Rattle.std.specs.Prelude.{take, drop, replicate, Some, OnOk, OnErr, IfErr}
use Rattle.std.specs.List.{sum_by}
use Rattle.go_base.specs.Colour.{other}
use Rattle.go_base.specs.declared.colours.Colour.{Colour}
use Rattle.go_base.specs.declared.vertices.Vertex.{Vertex}
use Rattle.go_base.specs.declared.vertices.Vertex.TheVariants.{Pass, At}
use Rattle.go_board.specs.Area.{score}
use Rattle.go_board.specs.Board.{stone_at}
use Rattle.go_board.specs.Game.{GameRecord, HasRoom, IsFinished, IsLegal, board_of, first_moves, with_move}
use Rattle.go_board.specs.Index.{IsIndex, IsTable}
use Rattle.go_board.specs.Refusals.{Refuses}
use Rattle.go_board.specs.declared.faults.PlayFault.{PlayFault}
use Rattle.go_board.specs.declared.faults.PlayFault.TheVariants as play_fault
use Rattle.go_playouts.specs.Seeded.{IsSeededRollout}
use Rattle.vintsaky_calls.specs.Codes.{CallResult, Returns}
use Rattle.vintsaky_calls.specs.Turns.{IsTurn}
use Rattle.vintsaky_calls.specs.declared.batches.Shown.{Shown}
use Rattle.vintsaky_calls.specs.declared.batches.Shown.TheVariants.{Planes, Mask}
use Rattle.vintsaky_calls.specs.declared.causes.Cause.{Cause}
use Rattle.vintsaky_calls.specs.declared.causes.Cause.TheVariants as cause

-- ---- moves by number

-- the number of a move on a board of this size: the index of its point, or the number of the points for a pass
abbrev pub IsMoveNumber : ℕ → ℕ → Vertex → Type 0
IsMoveNumber size number Pass = number ≡ size * size
IsMoveNumber size number (At p) = IsIndex size p number

-- the number is that of a move of the colour whose turn it is, and of both this holds
pub record IsMoveInTurn (game : GameRecord) (number : ℕ) (Holds : Colour → Vertex → Type 0) : Type 0 where
  pub c : Colour
  pub v : Vertex
  pub turn : IsTurn game c
  pub number_is : IsMoveNumber game.size number v
  pub holds : Holds c v

-- a move that was legal is made
abbrev pub MakesMove : GameRecord → ℕ → GameRecord → Type 0
MakesMove old number new = IsMoveInTurn old number (λ c v. IsLegal old c v × HasRoom old × (new ≡ with_move old c v))

-- the move is refused for this fault
abbrev pub RefusesFor : GameRecord → ℕ → PlayFault → Type 0
RefusesFor game number fault = IsMoveInTurn game number (λ c v. Refuses game c v fault)

-- why it isn't made: the number is that of no move, or the game refuses the move
abbrev pub RefusesNumber : GameRecord → ℕ → Cause → Type 0
RefusesNumber game number cause.OffBoard = game.size * game.size < number
RefusesNumber game number cause.Full = RefusesFor game number play_fault.Full
RefusesNumber game number cause.Occupied = RefusesFor game number play_fault.Occupied
RefusesNumber game number cause.Suicide = RefusesFor game number play_fault.Suicide
RefusesNumber game number cause.Ko = RefusesFor game number play_fault.Ko
RefusesNumber game number _ = ⊥

-- The move of a number is made by the colour whose turn it is; or the game stays as it was, for a cause.
pub record PlayNumberCall (old : GameRecord) (number : ℕ) (new : GameRecord) (made : CallResult) : Type 0 where
  pub played : OnOk made (MakesMove old number new)
  pub kept : OnErr made (new ≡ old)
  pub why : IfErr made (RefusesNumber old number)

-- and this is the number of what it comes to
abbrev pub PlaysNumber : GameRecord → ℕ → GameRecord → ℕ → Type 0
PlaysNumber old number new code = Returns code (PlayNumberCall old number new)

-- ---- games that are over

-- whether a game is over: 1 after two passes, else 2 where the record has `limit` moves or more, or is full, and else 0
pub record TellsOver (game : GameRecord) (limit over : ℕ) : Type 0 where
  pub passed : IsFinished game → over ≡ 1
  pub limited : ¬ IsFinished game → (limit ≤ length game.moves) ⊎ ¬ HasRoom game → over ≡ 2
  pub goes_on : ¬ IsFinished game → length game.moves < limit → HasRoom game → over ≡ 0

-- It is reported whether a game is over. A game that is over is scored, and then loses its moves. Any other stays as it
-- was, and 0 represents its score.
pub record Restarts (limit : ℕ) (old : GameRecord) (over : ℕ) (new : GameRecord) (half_points : ℤ) : Type 0 where
  pub reported : TellsOver old limit over
  pub scored : over ≢ 0 → half_points ≡ score old
  pub restarted : over ≢ 0 → new ≡ record old { moves = [] }
  pub no_score : over ≡ 0 → half_points ≡ pos 0
  pub kept : over ≡ 0 → new ≡ old

-- ---- what is shown of a game

-- one of two values: `one` where this holds, and `zero` where it doesn't
pub record IsMark {A : Type 0} (zero one : A) (Holds : Type 0) (value : A) : Type 0 where
  pub yes : Holds → value ≡ one
  pub no : ¬ Holds → value ≡ zero

-- a plane has a value for each point of the board, in its order: whether a stone of this colour is there
abbrev pub IsPlane : {A : Type 0} → A → A → GameRecord → Colour → List A → Type 0
IsPlane zero one game c = IsTable (λ p. IsMark zero one (stone_at (board_of game) p ≡ Some c)) game.size

-- the planes of a board: the stones of this colour, and then those of the other one
pub record AreStonePlanes {A : Type 0} (zero one : A) (game : GameRecord) (c : Colour) (values : List A) : Type 0 where
  pub own : List A
  pub others : List A
  pub own_is : IsPlane zero one game c own
  pub others_is : IsPlane zero one game (other c) others
  pub values_are : values ≡ own ++ others

-- the planes of the board `ago` moves earlier: that of the game without its last moves, or empty ones, where it has
-- fewer moves
pub record AreEarlierPlanes {A : Type 0} (zero one : A) (game : GameRecord) (c : Colour) (ago : ℕ) (values : List A)
    : Type 0 where
  pub there : ago ≤ length game.moves
      → AreStonePlanes zero one (first_moves (length game.moves - ago) game) c values
  pub empty : length game.moves < ago → values ≡ replicate (2 * (game.size * game.size)) zero

-- the planes of this many boards, one after the other: that of now, that of one move earlier, and so on
pub data ArePlanesOf {A : Type 0} (zero one : A) (game : GameRecord) (c : Colour) : ℕ → List A → Type 0 where
  no_board : ArePlanesOf zero one game c 0 []
  older : {boards : ℕ} {values next : List A} → ArePlanesOf zero one game c boards values
      → AreEarlierPlanes zero one game c boards next → ArePlanesOf zero one game c (boards + 1) (values ++ next)

-- the planes of the board and of earlier ones, for the colour whose turn it is
pub record ArePlanes {A : Type 0} (zero one : A) (earlier : ℕ) (game : GameRecord) (values : List A) : Type 0 where
  pub c : Colour
  pub turn : IsTurn game c
  pub planes : ArePlanesOf zero one game c (1 + earlier) values

-- a mask has a value for the move of each number: whether the colour whose turn it is may make it, as it may pass
pub record IsMask {A : Type 0} (zero one : A) (game : GameRecord) (values : List A) : Type 0 where
  pub c : Colour
  pub points : List A
  pub turn : IsTurn game c
  pub legal : IsTable (λ p. IsMark zero one (IsLegal game c (At p))) game.size points
  pub values_are : values ≡ points ++ one ∷ []

-- what is shown of a game
abbrev pub IsShown : {A : Type 0} → A → A → Shown → GameRecord → List A → Type 0
IsShown zero one (Planes earlier) = ArePlanes zero one earlier
IsShown zero one Mask = IsMask zero one

-- how many values that takes
abbrev pub shown_count : Shown → GameRecord → ℕ
shown_count (Planes earlier) game = (1 + earlier) * (2 * (game.size * game.size))
shown_count Mask game = game.size * game.size + 1

-- ---- rollouts

-- the half points are the score of a rollout by the words of a seed, in which the colour whose turn it is begins
pub record ScoresInTurn (game : GameRecord) (seed limit : ℕ) (half_points : ℤ) : Type 0 where
  pub c : Colour
  pub turn : IsTurn game c
  pub rolled_out : IsSeededRollout game c seed limit half_points

-- the game stays, and its rollout is scored so
abbrev pub RollsOut : ℕ → GameRecord → ℕ → GameRecord → ℤ → Type 0
RollsOut limit old seed new half_points = (new ≡ old) × ScoresInTurn old seed limit half_points

-- ---- many games

-- The lists have an item for each game. Of the game before the call, the first item, the game after the call and the
-- second item P holds.
pub data EachGame {A B : Type 0} (P : GameRecord → A → GameRecord → B → Type 0)
    : List GameRecord → List A → List GameRecord → List B → Type 0 where
  none : EachGame P [] [] [] []
  next : {before after : GameRecord} {a : A} {b : B} {old new : List GameRecord} {xs : List A} {ys : List B}
      → P before a after b → EachGame P old xs new ys → EachGame P (before ∷ old) (a ∷ xs) (after ∷ new) (b ∷ ys)

-- The list has the values of each game, one game's after the other's. Those of a game are as P says.
pub data InTurn {A : Type 0} (P : GameRecord → List A → Type 0) : List GameRecord → List A → Type 0 where
  no_game : InTurn P [] []
  first : {game : GameRecord} {games : List GameRecord} {values rest : List A} → P game values → InTurn P games rest
      → InTurn P (game ∷ games) (values ++ rest)

-- the items are written over the first ones of a list, and its others stay
pub record Overwrites {A : Type 0} (items old new : List A) : Type 0 where
  pub fits : length items ≤ length old
  pub new_is : new ≡ items ++ drop (length items) old

-- a list has fewer items than there are games
abbrev pub IsShort : {A B : Type 0} → List A → List B → Type 0
IsShort games items = length items < length games

-- each game makes the move of its number, or stays, and the number of what came of it is written
pub record PlaysEach (old new : List GameRecord) (moves causes_old causes_new : List ℕ) : Type 0 where
  pub causes : List ℕ
  pub enough : length old ≤ length moves
  pub played : EachGame PlaysNumber old (take (length old) moves) new causes
  pub written : Overwrites causes causes_old causes_new

-- The games make moves; or a list is too short, and nothing is played or written.
pub record PlayGamesCall (old new : List GameRecord) (moves causes_old causes_new : List ℕ) (made : CallResult)
    : Type 0 where
  pub played : OnOk made (PlaysEach old new moves causes_old causes_new)
  pub kept : OnErr made ((new ≡ old) × (causes_new ≡ causes_old))
  pub why : IfErr made (λ why. (why ≡ cause.NoRoom) × (IsShort old moves ⊎ IsShort old causes_old))

-- of each game it is written whether it is over and how it is scored, and those that are over begin again
pub record RestartsEach (limit : ℕ) (old new : List GameRecord) (over_old over_new : List ℕ)
    (half_points_old half_points_new : List ℤ)
    : Type 0 where
  pub over : List ℕ
  pub half_points : List ℤ
  pub restarted : EachGame (Restarts limit) old over new half_points
  pub over_written : Overwrites over over_old over_new
  pub half_points_written : Overwrites half_points half_points_old half_points_new

-- The games that are over begin again; or a list is too short, and nothing is done or written.
pub record RestartGamesCall (limit : ℕ) (old new : List GameRecord) (over_old over_new : List ℕ)
    (half_points_old half_points_new : List ℤ) (made : CallResult)
    : Type 0 where
  pub restarted : OnOk made (RestartsEach limit old new over_old over_new half_points_old half_points_new)
  pub kept : OnErr made ((new ≡ old) × (over_new ≡ over_old) × (half_points_new ≡ half_points_old))
  pub why : IfErr made (λ why. (why ≡ cause.NoRoom) × (IsShort old over_old ⊎ IsShort old half_points_old))

-- what is shown of each game is written
pub record ShowsEach {A : Type 0} (zero one : A) (shown : Shown) (games : List GameRecord) (old new : List A)
    : Type 0 where
  pub values : List A
  pub shows : InTurn (IsShown zero one shown) games values
  pub written : Overwrites values old new

-- Each game is shown; or the list is too short for all of them, and nothing is written.
pub record ShowGamesCall {A : Type 0} (zero one : A) (shown : Shown) (games : List GameRecord) (old new : List A)
    (made : CallResult)
    : Type 0 where
  pub written : OnOk made (ShowsEach zero one shown games old new)
  pub kept : OnErr made (new ≡ old)
  pub why : IfErr made (λ why. (why ≡ cause.NoRoom) × (length old < sum_by (shown_count shown) games))

-- the score of a rollout of each game is written
pub record RollsOutEach (limit : ℕ) (games : List GameRecord) (seeds : List ℕ) (old new : List ℤ) : Type 0 where
  pub half_points : List ℤ
  pub enough : length games ≤ length seeds
  pub scored : EachGame (RollsOut limit) games (take (length games) seeds) games half_points
  pub written : Overwrites half_points old new

-- Rollouts of the games are scored; or a list is too short, and nothing is written.
pub record RolloutGamesCall (limit : ℕ) (games : List GameRecord) (seeds : List ℕ) (old new : List ℤ)
    (made : CallResult)
    : Type 0 where
  pub scored : OnOk made (RollsOutEach limit games seeds old new)
  pub kept : OnErr made (new ≡ old)
  pub why : IfErr made (λ why. (why ≡ cause.NoRoom) × (IsShort games seeds ⊎ IsShort games old))
