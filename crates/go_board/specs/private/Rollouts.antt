-- What a rollout keeps in place of a game, under simple ko.
use Rattle.std.specs.Prelude.{◌≡◌, ℕ, ◌↔◌, Bool, IsTrue, List, [], ◌∷◌, ◌++◌, length, slice_set, slice_get}
use Rattle.std.specs.Prelude.{Contains, Option, Some}
use Rattle.std.specs.List.{swap_remove}
use Rattle.go_base.specs.Colour.{other}
use Rattle.go_base.specs.declared.colours.Colour.{Colour}
use Rattle.go_base.specs.declared.moves.Move.{Move}
use Rattle.go_base.specs.declared.vertices.Vertex.TheVariants.{Pass, At}
use Rattle.go_board.specs.declared.board.Cell.{Cell}
use Rattle.go_board.specs.declared.board.Cell.TheVariants.{Empty}
use Rattle.go_board.specs.declared.rules.KoRule.TheVariants.{Simple}
use Rattle.go_board.specs.declared.rollout.Rollout.{Rollout}
use Rattle.go_board.specs.Board.{at, stone}
use Rattle.go_board.specs.Candidates.{IsCandidate}
use Rattle.go_board.specs.Game.{GameRecord, IsGame, HasRoom, IsFinished, RepeatsLast, board_of, with_move}
use Rattle.go_board.specs.Play.{play}
use Rattle.go_board.specs.private.Ko.{TakesOnly}
use Rattle.go_board.specs.private.Playouts.{IsOrderOf, IsTurnTaken, IsPlayedOn}
use Rattle.go_board.specs.private.TakenStack.{captured_places}

-- the last move is a pass
pub record LastIsPass (game : GameRecord) : Type 0 where
  pub before : List Move
  pub colour : Colour
  pub ends : game.moves ≡ before ++ record { colour = colour; vertex = Pass } ∷ []

-- What is kept is that of a game under simple ko in which this colour is to move: its board, an order of its empty
-- points, the one point, if any, where a play would bring back the board before the last move, whether the last move is
-- a pass, whether the last two are, and how many moves there are.
pub record IsScratch (game : GameRecord) (c : Colour) (board : List Cell) (order : List ℕ) (ko : Option ℕ)
    (passed finished : Bool) (moves : ℕ) : Type 0 where
  pub game_is : IsGame game
  pub simple : game.rule ≡ Simple
  pub board_is : board ≡ board_of game
  pub order_is : IsOrderOf (board_of game) order
  pub ko_is : (p : ℕ) → at (board_of game) p ≡ Empty
      → RepeatsLast game (play (board_of game) c p) ↔ (ko ≡ Some p)
  pub passed_is : IsTrue passed ↔ LastIsPass game
  pub finished_is : IsTrue finished ↔ IsFinished game
  pub moves_is : moves ≡ length game.moves

-- the places of the stones that a play takes
abbrev pub places_taken : List Cell → Colour → ℕ → List ℕ
places_taken board c p = captured_places (slice_set board p (stone c)) (other c)

-- The ko point after a play on p that took the stones on these places and left this board: the place of the one stone
-- that it took, where a play there takes just the new stone; else there is none.
pub record IsKoOf (board : List Cell) (c : Colour) (p : ℕ) (places : List ℕ) (ko : Option ℕ) : Type 0 where
  pub some : (q : ℕ) → ko ≡ Some q → (places ≡ q ∷ []) × TakesOnly board (other c) q p
  pub back : (q : ℕ) → places ≡ q ∷ [] → TakesOnly board (other c) q p → ko ≡ Some q

-- it is the ko point after a play on p of the board before
abbrev pub IsNextKo : List Cell → Colour → ℕ → Option ℕ → Type 0
IsNextKo board c p ko = IsKoOf (play board c p) c p (places_taken board c p) ko

-- the order ends with these places, of which there are so many, and they are empty
pub record EndsIn (board : List Cell) (order : List ℕ) (many : ℕ) (places : List ℕ) : Type 0 where
  pub had : List ℕ
  pub order_is : order ≡ had ++ places
  pub long : many ≡ length places
  pub empty : (q : ℕ) → Contains places q → at board q ≡ Empty

-- it is the place where a play of this colour would bring back the board before the last move, and none where there is
-- no such place
abbrev pub IsKoPlace : GameRecord → Colour → Option ℕ → Type 0
IsKoPlace game c ko = (p : ℕ) → at (board_of game) p ≡ Empty
    → RepeatsLast game (play (board_of game) c p) ↔ (ko ≡ Some p)

-- ---- in terms of the type

abbrev pub IsRolloutOf : GameRecord → Colour → Rollout → Type 0
IsRolloutOf game c r = IsScratch game c r.board r.order r.ko r.passed r.finished r.moves

-- the point on this index of the order is a candidate in some game of which this is kept, and the record has room
pub record IsDrawnIn (r : Rollout) (c : Colour) (index : ℕ) : Type 0 where
  pub game : GameRecord
  pub point : ℕ
  pub kept : IsRolloutOf game c r
  pub room : HasRoom game
  pub drawn : slice_get r.order index ≡ Some point
  pub candidate : IsCandidate game c point

-- it was played, in any such game
abbrev pub IsPlayedIn : Rollout → Rollout → Colour → ℕ → Type 0
IsPlayedIn old new c index =
    (game : GameRecord) (p : ℕ) → IsRolloutOf game c old → HasRoom game → slice_get old.order index ≡ Some p
    → IsCandidate game c p
    → IsRolloutOf (with_move game c (At p)) (other c) new
    × (new.order ≡ swap_remove old.order index p ++ places_taken old.board c p)

-- the colour has taken its turn
pub record IsTurnIn {W : Type 0} (gives : W → ℕ → W → Type 0) (game : GameRecord) (c : Colour) (old : Rollout)
    (before : W) (new : Rollout) (then : W) : Type 0 where
  pub after : GameRecord
  pub turn : IsTurnTaken gives game c old.order before after new.order then
  pub kept : IsRolloutOf after (other c) new

-- a playout was made, and this is the board that it left
pub record IsPlayedOnIn {W : Type 0} (gives : W → ℕ → W → Type 0) (game : GameRecord) (c : Colour) (limit : ℕ)
    (old : Rollout) (before : W) (new : Rollout) (then : W) : Type 0 where
  pub after : GameRecord
  pub playout : IsPlayedOn gives game c old.order limit before after then
  pub board_is : new.board ≡ board_of after
