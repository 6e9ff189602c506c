-- The calls by which a search looks at a game, and plays on.
use Rattle.std.specs.Prelude.{◌≡◌, ◌≢◌, ℕ, ℤ, ◌*◌, ◌<◌, ◌≤◌, ◌↔◌, List, ◌++◌, length, map, drop, Option, None, Bool, IsTrue}
use Rattle.std.specs.Prelude.{Some, OnOk, OnErr, IfErr}
use Rattle.go_base.specs.declared.colours.Colour.{Colour}
use Rattle.go_base.specs.declared.vertices.Vertex.{Vertex}
use Rattle.go_board.specs.Board.{stone_at}
use Rattle.go_board.specs.Candidates.{IsRandomMove}
use Rattle.go_board.specs.ChainPoints.{AreChainPoints, AreChainLiberties}
use Rattle.go_board.specs.Eye.{IsOwnEye}
use Rattle.go_board.specs.Game.{GameRecord, board_of}
use Rattle.go_board.specs.Index.{IsIndex, AreStones, AreLegalMarks}
use Rattle.go_board.specs.KoPoint.{IsOnlyKoPoint}
use Rattle.go_board.specs.PositionHash.{IsPositionHash}
use Rattle.go_playouts.specs.Seeded.{IsSeededPlayout, IsSeededRollout}
use Rattle.vintsaky_calls.specs.Codes.{colour_code, vertex_code, point_code, NoColour, CallResult}
use Rattle.vintsaky_calls.specs.Games.{IsPointOn, RefusesPointCode, RefusesChain, PutsPoints, stone_code}
use Rattle.vintsaky_calls.specs.Matches.{bool_code}
use Rattle.vintsaky_calls.specs.declared.causes.Cause.{Cause}
use Rattle.vintsaky_calls.specs.declared.causes.Cause.TheVariants as cause

-- ---- points by index

-- the index of the point of a number
pub record HasIndex (game : GameRecord) (vertex index : ℕ) : Type 0 where
  pub point : ℕ
  pub on : IsPointOn game vertex point
  pub index_is : IsIndex game.size point index

-- The index of a point is found; or the number is that of no point of the board, and nothing is written.
pub record IndexCall (game : GameRecord) (vertex old new : ℕ) (made : CallResult) : Type 0 where
  pub found : OnOk made (HasIndex game vertex new)
  pub kept : OnErr made (new ≡ old)
  pub why : IfErr made (RefusesPointCode game vertex)

-- the number of the point of an index
pub record HasPoint (game : GameRecord) (index vertex : ℕ) : Type 0 where
  pub point : ℕ
  pub index_is : IsIndex game.size point index
  pub vertex_is : vertex ≡ point_code point

-- The point of an index is found; or the board has fewer points, and nothing is written.
pub record PointAtCall (game : GameRecord) (index old new : ℕ) (made : CallResult) : Type 0 where
  pub found : OnOk made (HasPoint game index new)
  pub kept : OnErr made (new ≡ old)
  pub why : IfErr made (λ why. (why ≡ cause.OffBoard) × (game.size * game.size ≤ index))

-- ---- the whole board

-- The bytes are put into the caller's list, where it has room for all of them: its other bytes stay.
pub record PutsBytes (bytes old new : List ℕ) (count : ℕ) : Type 0 where
  pub counted : count ≡ length bytes
  pub written : length bytes ≤ length old → new ≡ bytes ++ drop (length bytes) old
  pub kept : length old < length bytes → new ≡ old

-- the stone on each point of the board is listed, by the number of its colour, and 0 where there is none
pub record ListsBoard (game : GameRecord) (old new : List ℕ) (count : ℕ) : Type 0 where
  pub stones : List (Option Colour)
  pub are : AreStones game stones
  pub puts : PutsBytes (map stone_code stones) old new count

-- for each point of the board it is listed whether a colour may play there next: 1 where it may, 0 where it may not
pub record ListsMarks (game : GameRecord) (colour : ℕ) (old new : List ℕ) (count : ℕ) : Type 0 where
  pub c : Colour
  pub marks : List Bool
  pub colour_is : colour ≡ colour_code c
  pub legal : AreLegalMarks game c marks
  pub puts : PutsBytes (map bool_code marks) old new count

-- The legal points are marked; or the number is no colour, and nothing is written.
pub record LegalMaskCall (game : GameRecord) (colour : ℕ) (old new : List ℕ) (count_old count_new : ℕ)
    (made : CallResult)
    : Type 0 where
  pub listed : OnOk made (ListsMarks game colour old new count_new)
  pub kept : OnErr made ((new ≡ old) × (count_new ≡ count_old))
  pub why : IfErr made (λ why. (why ≡ cause.BadColour) × NoColour colour)

-- ---- own eyes

-- whether the point of a number is an own eye: 1 where it is one, and 0 where it isn't
pub record TellsOwnEye (game : GameRecord) (colour vertex number : ℕ) : Type 0 where
  pub c : Colour
  pub point : ℕ
  pub holds : Bool
  pub colour_is : colour ≡ colour_code c
  pub on : IsPointOn game vertex point
  pub holds_is : IsTrue holds ↔ IsOwnEye (board_of game) c point
  pub number_is : number ≡ bool_code holds

-- why the call is rejected
abbrev pub RefusesOwnEye : GameRecord → ℕ → ℕ → Cause → Type 0
RefusesOwnEye game colour vertex cause.BadColour = NoColour colour
RefusesOwnEye game colour vertex cause.BadVertex =
    ((c : Colour) × (colour ≡ colour_code c)) × RefusesPointCode game vertex cause.BadVertex
RefusesOwnEye game colour vertex cause.OffBoard =
    ((c : Colour) × (colour ≡ colour_code c)) × RefusesPointCode game vertex cause.OffBoard
RefusesOwnEye game colour vertex _ = ⊥

-- Whether a point is an own eye of a colour is written; or nothing is, for a cause.
pub record IsOwnEyeCall (game : GameRecord) (colour vertex old new : ℕ) (made : CallResult) : Type 0 where
  pub written : OnOk made (TellsOwnEye game colour vertex new)
  pub kept : OnErr made (new ≡ old)
  pub why : IfErr made (RefusesOwnEye game colour vertex)

-- ---- chains

-- the points that belong so to the chain of the stone on the point of a number are listed
pub record ListsOfChain (AreOf : ℕ → List ℕ → Type 0) (game : GameRecord) (vertex : ℕ) (old new : List ℕ) (count : ℕ)
    : Type 0 where
  pub point : ℕ
  pub points : List ℕ
  pub on : IsPointOn game vertex point
  pub stone : stone_at (board_of game) point ≢ None
  pub are : AreOf point points
  pub puts : PutsPoints points old new count

-- The stones of a chain are listed; or there is no chain, and nothing is written.
pub record ChainPointsCall (game : GameRecord) (vertex : ℕ) (old new : List ℕ) (count_old count_new : ℕ)
    (made : CallResult)
    : Type 0 where
  pub listed : OnOk made (ListsOfChain (AreChainPoints (board_of game)) game vertex old new count_new)
  pub kept : OnErr made ((new ≡ old) × (count_new ≡ count_old))
  pub why : IfErr made (RefusesChain game vertex)

-- The liberties of a chain are listed; or there is no chain, and nothing is written.
pub record ChainLibertiesCall (game : GameRecord) (vertex : ℕ) (old new : List ℕ) (count_old count_new : ℕ)
    (made : CallResult)
    : Type 0 where
  pub listed : OnOk made (ListsOfChain (AreChainLiberties (board_of game)) game vertex old new count_new)
  pub kept : OnErr made ((new ≡ old) × (count_new ≡ count_old))
  pub why : IfErr made (RefusesChain game vertex)

-- ---- the ko point

-- the number of a point, or 0, as a pass, where there is none
abbrev pub maybe_point_code : Option ℕ → ℕ
maybe_point_code None = 0
maybe_point_code (Some p) = point_code p

-- the number is that of the one ko point of a colour, or 0 where it has none
pub record HasKoPoint (game : GameRecord) (colour vertex : ℕ) : Type 0 where
  pub c : Colour
  pub ko : Option ℕ
  pub colour_is : colour ≡ colour_code c
  pub ko_is : IsOnlyKoPoint game c ko
  pub vertex_is : vertex ≡ maybe_point_code ko

-- The ko point of a colour is found, or that there is none; or the number is no colour, and nothing is written.
pub record KoPointCall (game : GameRecord) (colour old new : ℕ) (made : CallResult) : Type 0 where
  pub found : OnOk made (HasKoPoint game colour new)
  pub kept : OnErr made (new ≡ old)
  pub why : IfErr made (λ why. (why ≡ cause.BadColour) × NoColour colour)

-- ---- random moves

-- the word chooses the move of a number
pub record ChoosesMove (game : GameRecord) (colour word vertex : ℕ) : Type 0 where
  pub c : Colour
  pub v : Vertex
  pub colour_is : colour ≡ colour_code c
  pub chosen : IsRandomMove game c word v
  pub vertex_is : vertex ≡ vertex_code v

-- A move is chosen by a word; or the number is no colour, and nothing is written.
pub record RandomMoveCall (game : GameRecord) (colour word old new : ℕ) (made : CallResult) : Type 0 where
  pub chosen : OnOk made (ChoosesMove game colour word new)
  pub kept : OnErr made (new ≡ old)
  pub why : IfErr made (λ why. (why ≡ cause.BadColour) × NoColour colour)

-- ---- hashes

-- the hash of the position with a colour to move
pub record HasPositionHash (game : GameRecord) (colour hash : ℕ) : Type 0 where
  pub c : Colour
  pub colour_is : colour ≡ colour_code c
  pub hash_is : IsPositionHash game c hash

-- The hash of a position is found; or the number is no colour, and nothing is written.
pub record PositionHashCall (game : GameRecord) (colour old new : ℕ) (made : CallResult) : Type 0 where
  pub found : OnOk made (HasPositionHash game colour new)
  pub kept : OnErr made (new ≡ old)
  pub why : IfErr made (λ why. (why ≡ cause.BadColour) × NoColour colour)

-- ---- playouts

-- a playout by the words of a seed is made
pub record MakesPlayout (colour seed limit : ℕ) (old new : GameRecord) : Type 0 where
  pub c : Colour
  pub colour_is : colour ≡ colour_code c
  pub played : IsSeededPlayout old c seed limit new

-- A playout is made; or the number is no colour, and the game stays as it was.
pub record PlayoutCall (colour seed limit : ℕ) (old new : GameRecord) (made : CallResult) : Type 0 where
  pub played : OnOk made (MakesPlayout colour seed limit old new)
  pub kept : OnErr made (new ≡ old)
  pub why : IfErr made (λ why. (why ≡ cause.BadColour) × NoColour colour)

-- the half points are the score of the game after a playout by the words of a seed
pub record ScoresPlayout (game : GameRecord) (colour seed limit : ℕ) (half_points : ℤ) : Type 0 where
  pub c : Colour
  pub colour_is : colour ≡ colour_code c
  pub rolled_out : IsSeededRollout game c seed limit half_points

-- The score after a playout is found; or the number is no colour, and nothing is written.
pub record RolloutCall (game : GameRecord) (colour seed limit : ℕ) (old new : ℤ) (made : CallResult) : Type 0 where
  pub found : OnOk made (ScoresPlayout game colour seed limit new)
  pub kept : OnErr made (new ≡ old)
  pub why : IfErr made (λ why. (why ≡ cause.BadColour) × NoColour colour)
