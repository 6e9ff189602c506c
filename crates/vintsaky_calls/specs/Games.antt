-- The calls of a game.
use Rattle.std.specs.Prelude.{◌≡◌, ◌≢◌, ℕ, ℤ, ◌<◌, ◌≤◌, List, [], ◌++◌, length, map, drop, Option, Some, None}
use Rattle.std.specs.Prelude.{slice_get, OnOk, OnErr, IfErr}
use Rattle.go_base.specs.Handicap.{AllowsHandicap}
use Rattle.go_base.specs.Komi.{IsKomi}
use Rattle.go_base.specs.Point.{IsOn}
use Rattle.go_base.specs.Size.{IsSize, most_size}
use Rattle.go_base.specs.declared.colours.Colour.{Colour}
use Rattle.go_base.specs.declared.vertices.Vertex.{Vertex}
use Rattle.go_base.specs.declared.vertices.Vertex.TheVariants.{At}
use Rattle.go_base.specs.declared.moves.Move.{Move}
use Rattle.go_board.specs.Board.{stone_at}
use Rattle.go_board.specs.Game.{GameRecord, HasRoom, IsLegal, board_of, with_move, without_last}
use Rattle.go_board.specs.LastTaken.{AreTakenByLast}
use Rattle.go_board.specs.LegalPoints.{AreLegalPoints}
use Rattle.go_board.specs.Liberties.{IsChainAt}
use Rattle.go_board.specs.Refusals.{Refuses, RefusesVertex, RefusesHandicap, IsTouched}
use Rattle.go_board.specs.Taken.{taken}
use Rattle.go_board.specs.declared.faults.PlayFault.{PlayFault}
use Rattle.go_board.specs.declared.faults.PlayFault.TheVariants as play_fault
use Rattle.go_board.specs.declared.faults.HandicapFault.TheVariants as handicap_fault
use Rattle.go_board.specs.declared.game.searching.Chain.{Chain}
use Rattle.go_board.specs.declared.rules.KoRule.{KoRule}
use Rattle.vintsaky_calls.specs.Codes.{colour_code, rule_code, vertex_code, point_code, IsCodeOf}
use Rattle.vintsaky_calls.specs.Codes.{NoColour, NoRule, NoVertex, CallResult}
use Rattle.vintsaky_calls.specs.declared.causes.Cause.{Cause}
use Rattle.vintsaky_calls.specs.declared.causes.Cause.TheVariants as cause

-- a game is reset, by a ko rule, a size and a komi in half points
pub record Begins (rule size : ℕ) (komi : ℤ) (new : GameRecord) : Type 0 where
  pub by : KoRule
  pub rule_is : rule ≡ rule_code by
  pub size_is : IsSize size
  pub komi_is : IsKomi komi
  pub new_is : new ≡ record { size = size; komi = komi; rule = by; handicap = 0; moves = [] }

-- why it isn't: the first that is none, of the ko rule, the size and the komi
abbrev pub RefusesToBegin : ℕ → ℕ → ℤ → Cause → Type 0
RefusesToBegin rule size komi cause.BadRule = NoRule rule
RefusesToBegin rule size komi cause.BadSize = ((by : KoRule) × (rule ≡ rule_code by)) × ¬ IsSize size
RefusesToBegin rule size komi cause.BadKomi = ((by : KoRule) × (rule ≡ rule_code by)) × IsSize size × ¬ IsKomi komi
RefusesToBegin rule size komi _ = ⊥

-- A game is reset; or it stays as it was, for a cause.
pub record BeginCall (rule size : ℕ) (komi : ℤ) (old new : GameRecord) (made : CallResult) : Type 0 where
  pub begun : OnOk made (Begins rule size komi new)
  pub kept : OnErr made (new ≡ old)
  pub why : IfErr made (RefusesToBegin rule size komi)

-- the numbers are those of a colour and of a vertex, of which this holds
pub record AreCodesOfMove (colour vertex : ℕ) (Holds : Colour → Vertex → Type 0) : Type 0 where
  pub c : Colour
  pub v : Vertex
  pub colour_is : colour ≡ colour_code c
  pub vertex_is : IsCodeOf vertex v
  pub holds : Holds c v

-- a move that was legal is made
abbrev pub Makes : GameRecord → ℕ → ℕ → GameRecord → Type 0
Makes old colour vertex new =
    AreCodesOfMove colour vertex (λ c v. IsLegal old c v × HasRoom old × (new ≡ with_move old c v))

-- the numbers are those of a move that is refused by this cause, where `By` says of which moves it is one
abbrev pub RefusesMoveBy : (Colour → Vertex → PlayFault → Type 0) → ℕ → ℕ → Cause → Type 0
RefusesMoveBy By colour vertex cause.BadColour = NoColour colour
RefusesMoveBy By colour vertex cause.BadVertex = ((c : Colour) × (colour ≡ colour_code c)) × NoVertex vertex
RefusesMoveBy By colour vertex cause.Full = AreCodesOfMove colour vertex (λ c v. By c v play_fault.Full)
RefusesMoveBy By colour vertex cause.OffBoard = AreCodesOfMove colour vertex (λ c v. By c v play_fault.OffBoard)
RefusesMoveBy By colour vertex cause.Occupied = AreCodesOfMove colour vertex (λ c v. By c v play_fault.Occupied)
RefusesMoveBy By colour vertex cause.Suicide = AreCodesOfMove colour vertex (λ c v. By c v play_fault.Suicide)
RefusesMoveBy By colour vertex cause.Ko = AreCodesOfMove colour vertex (λ c v. By c v play_fault.Ko)
RefusesMoveBy By colour vertex _ = ⊥

-- why a move isn't made
abbrev pub RefusesMove : GameRecord → ℕ → ℕ → Cause → Type 0
RefusesMove game = RefusesMoveBy (Refuses game)

-- A move is made; or the game stays as it was, for a cause.
pub record PlayCall (colour vertex : ℕ) (old new : GameRecord) (made : CallResult) : Type 0 where
  pub played : OnOk made (Makes old colour vertex new)
  pub kept : OnErr made (new ≡ old)
  pub why : IfErr made (RefusesMove old colour vertex)

-- why a move isn't legal
abbrev pub IsIllegal : GameRecord → ℕ → ℕ → Cause → Type 0
IsIllegal game = RefusesMoveBy (RefusesVertex game)

-- A move is legal; or it isn't, for a cause.
pub record LegalCall (game : GameRecord) (colour vertex : ℕ) (made : CallResult) : Type 0 where
  pub legal : OnOk made (AreCodesOfMove colour vertex (IsLegal game))
  pub why : IfErr made (IsIllegal game colour vertex)

-- The last move is taken back; or there is none, and the game stays as it was.
pub record UndoCall (old new : GameRecord) (made : CallResult) : Type 0 where
  pub undone : OnOk made ((old.moves ≢ []) × (new ≡ without_last old))
  pub kept : OnErr made (new ≡ old)
  pub why : IfErr made (λ why. (why ≡ cause.NothingToUndo) × (old.moves ≡ []))

-- The komi is set, and nothing else changes; or it is none, and the game stays as it was.
pub record SetKomiCall (komi : ℤ) (old new : GameRecord) (made : CallResult) : Type 0 where
  pub set : OnOk made (IsKomi komi × (new ≡ record old { komi = komi }))
  pub kept : OnErr made (new ≡ old)
  pub why : IfErr made (λ why. (why ≡ cause.BadKomi) × ¬ IsKomi komi)

-- handicap stones are put on their points
pub record PlacesHandicap (old : GameRecord) (stones : ℕ) (new : GameRecord) : Type 0 where
  pub clean : ¬ IsTouched old
  pub allowed : AllowsHandicap old.size stones
  pub new_is : new ≡ record old { handicap = stones }

-- why they aren't
abbrev pub RefusesStones : GameRecord → ℕ → Cause → Type 0
RefusesStones game stones cause.NotEmpty = RefusesHandicap game stones handicap_fault.NotEmpty
RefusesStones game stones cause.BadHandicap = RefusesHandicap game stones handicap_fault.BadNumber
RefusesStones game stones _ = ⊥

-- Handicap stones are placed; or the game stays as it was, for a cause.
pub record PlaceHandicapCall (stones : ℕ) (old new : GameRecord) (made : CallResult) : Type 0 where
  pub placed : OnOk made (PlacesHandicap old stones new)
  pub kept : OnErr made (new ≡ old)
  pub why : IfErr made (RefusesStones old stones)

-- The numbers of the points are put into the caller's list, where it has room for all of them: its other numbers stay.
pub record PutsPoints (points old new : List ℕ) (count : ℕ) : Type 0 where
  pub counted : count ≡ length points
  pub written : length points ≤ length old → new ≡ map point_code points ++ drop (length points) old
  pub kept : length old < length points → new ≡ old

-- the points on which a colour may play next are listed
pub record ListsLegal (game : GameRecord) (colour : ℕ) (old new : List ℕ) (count : ℕ) : Type 0 where
  pub c : Colour
  pub points : List ℕ
  pub colour_is : colour ≡ colour_code c
  pub legal : AreLegalPoints game c points
  pub puts : PutsPoints points old new count

-- The legal points are listed; or the number is no colour, and nothing is written.
pub record LegalPointsCall (game : GameRecord) (colour : ℕ) (old new : List ℕ) (count_old count_new : ℕ)
    (made : CallResult)
    : Type 0 where
  pub listed : OnOk made (ListsLegal game colour old new count_new)
  pub kept : OnErr made ((new ≡ old) × (count_new ≡ count_old))
  pub why : IfErr made (λ why. (why ≡ cause.BadColour) × NoColour colour)

-- the points whose stones the last move took are listed
pub record ListsTaken (game : GameRecord) (old new : List ℕ) (count : ℕ) : Type 0 where
  pub points : List ℕ
  pub taken : AreTakenByLast game points
  pub puts : PutsPoints points old new count

-- the number is that of a point of the game's board
pub record IsPointOn (game : GameRecord) (vertex point : ℕ) : Type 0 where
  pub code : IsCodeOf vertex (At point)
  pub on : IsOn game.size point

-- why it is that of none: no point has it, or the point is off the board
abbrev pub RefusesPointCode : GameRecord → ℕ → Cause → Type 0
RefusesPointCode game vertex cause.BadVertex = (p : ℕ) → IsOn most_size p → vertex ≢ point_code p
RefusesPointCode game vertex cause.OffBoard = (p : ℕ) × IsCodeOf vertex (At p) × ¬ IsOn game.size p
RefusesPointCode game vertex _ = ⊥

-- the number of the colour of a stone, or 0 where there is none
abbrev pub stone_code : Option Colour → ℕ
stone_code None = 0
stone_code (Some colour) = colour_code colour

-- what is on the point of a number
pub record HasAt (game : GameRecord) (vertex colour : ℕ) : Type 0 where
  pub point : ℕ
  pub on : IsPointOn game vertex point
  pub colour_is : colour ≡ stone_code (stone_at (board_of game) point)

-- The colour on a point is found; or the number is that of no point of the board, and nothing is written.
pub record StoneAtCall (game : GameRecord) (vertex old new : ℕ) (made : CallResult) : Type 0 where
  pub found : OnOk made (HasAt game vertex new)
  pub kept : OnErr made (new ≡ old)
  pub why : IfErr made (RefusesPointCode game vertex)

-- the chain of the stone on the point of a number
pub record HasChain (game : GameRecord) (vertex stones liberties : ℕ) : Type 0 where
  pub point : ℕ
  pub on : IsPointOn game vertex point
  pub chain : Chain
  pub is_chain : IsChainAt (board_of game) point chain
  pub stones_are : stones ≡ chain.stones
  pub liberties_are : liberties ≡ chain.liberties

-- why there is none
abbrev pub RefusesChain : GameRecord → ℕ → Cause → Type 0
RefusesChain game vertex cause.BadVertex = RefusesPointCode game vertex cause.BadVertex
RefusesChain game vertex cause.OffBoard = RefusesPointCode game vertex cause.OffBoard
RefusesChain game vertex cause.NoStone =
    (p : ℕ) × IsPointOn game vertex p × (stone_at (board_of game) p ≡ None)
RefusesChain game vertex _ = ⊥

-- The stones and the liberties of a chain are found; or there is no chain, and nothing is written.
pub record ChainCall (game : GameRecord) (vertex stones_old stones_new liberties_old liberties_new : ℕ)
    (made : CallResult)
    : Type 0 where
  pub found : OnOk made (HasChain game vertex stones_new liberties_new)
  pub kept : OnErr made ((stones_new ≡ stones_old) × (liberties_new ≡ liberties_old))
  pub why : IfErr made (RefusesChain game vertex)

-- the move of this number
pub record HasMove (game : GameRecord) (number colour vertex : ℕ) : Type 0 where
  pub move : Move
  pub is : slice_get game.moves number ≡ Some move
  pub colour_is : colour ≡ colour_code move.colour
  pub vertex_is : vertex ≡ vertex_code move.vertex

-- A move of the record is found; or the record is too short, and nothing is written.
pub record MadeCall (game : GameRecord) (number colour_old colour_new vertex_old vertex_new : ℕ) (made : CallResult)
    : Type 0 where
  pub found : OnOk made (HasMove game number colour_new vertex_new)
  pub kept : OnErr made ((colour_new ≡ colour_old) × (vertex_new ≡ vertex_old))
  pub why : IfErr made (λ why. (why ≡ cause.NoMove) × (length game.moves ≤ number))

-- how many stones a colour has taken
pub record HasCaptured (game : GameRecord) (colour stones : ℕ) : Type 0 where
  pub c : Colour
  pub colour_is : colour ≡ colour_code c
  pub stones_are : stones ≡ taken game c

-- The stones that a colour has taken are counted; or the number is no colour, and nothing is written.
pub record CapturedCall (game : GameRecord) (colour old new : ℕ) (made : CallResult) : Type 0 where
  pub found : OnOk made (HasCaptured game colour new)
  pub kept : OnErr made (new ≡ old)
  pub why : IfErr made (λ why. (why ≡ cause.BadColour) × NoColour colour)
