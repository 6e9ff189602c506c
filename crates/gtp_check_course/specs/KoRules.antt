-- The ko rules of engines, where ko isn't asked. (Own.)
use Rattle.std.specs.Prelude.{◌≡◌, ℕ, ◌≤◌, true, List, [], ◌∷◌, length, take, ◌↔◌, Option}
use Rattle.go_base.specs.Colour.{other}
use Rattle.go_base.specs.Point.{IsOn}
use Rattle.go_base.specs.declared.colours.Colour.{Colour}
use Rattle.go_base.specs.declared.moves.Move.{Move}
use Rattle.go_base.specs.declared.vertices.Vertex.{Vertex}
use Rattle.go_base.specs.declared.vertices.Vertex.TheVariants.{Pass, At}
use Rattle.go_board.specs.Board.{at}
use Rattle.go_board.specs.Chain.{IsFree}
use Rattle.go_board.specs.Game.{GameRecord, IsLegal, RepeatsAny, RepeatsLast, board_of, first_moves}
use Rattle.go_board.specs.Play.{play}
use Rattle.go_board.specs.Refusals.{RefusesVertex}
use Rattle.go_board.specs.declared.board.Cell.{Cell}
use Rattle.go_board.specs.declared.board.Cell.TheVariants.{Empty}
use Rattle.go_board.specs.declared.faults.PlayFault.{PlayFault}
use Rattle.go_board.specs.declared.faults.PlayFault.TheVariants.{Ko}
use Rattle.go_board.specs.declared.rules.KoRule.TheVariants.{Positional as PositionalGame}
use Rattle.gtp_check_judge.specs.Asking.{IsPlayOf}
use Rattle.gtp_check_judge.specs.declared.asking.CheckCommand.{CheckCommand}
use Rattle.gtp_check_judge.specs.declared.exam.Exam.{Exam}
use Rattle.gtp_check_course.specs.declared.actions.Action.TheVariants.{Ask}
use Rattle.gtp_check_course.specs.declared.lessons.Lesson.{Lesson}
use Rattle.gtp_check_course.specs.declared.unasked.Unasked.{Unasked}
use Rattle.gtp_check_course.specs.Course.{Course, GoesTo}
use Rattle.gtp_check_course.specs.Laws.{Walks}

-- the colour that is to move after these moves; before the first one it is `first`
abbrev pub to_move : Colour → List Move → Colour
to_move first [] = first
to_move first (move ∷ later) = to_move (other move.colour) later

-- Situational superko: the board would be as it was after some number of the game's first moves, and the same colour
-- would be to move.
pub record RepeatsSituation (first : Colour) (game : GameRecord) (c : Colour) (next : List Cell) : Type 0 where
  pub number : ℕ
  pub within : number ≤ length game.moves
  pub same : next ≡ board_of (first_moves number game)
  pub to_move : to_move first (take number game.moves) ≡ other c

-- The ko rules that engines have: simple ko, situational superko with the colour that is to move first, and positional
-- superko.
pub data EngineRule : Type 0 where
  simple : EngineRule
  situational : Colour → EngineRule
  positional : EngineRule

-- such a rule forbids a colour a board in this game
abbrev pub Forbids : EngineRule → GameRecord → Colour → List Cell → Type 0
Forbids EngineRule.simple game c next = RepeatsLast game next
Forbids (EngineRule.situational first) game c next = RepeatsSituation first game c next
Forbids EngineRule.positional game c next = RepeatsAny game next

-- a play on a point is legal by such a rule, on the board of this game
pub record IsLegalPlayBy (rule : EngineRule) (game : GameRecord) (c : Colour) (p : ℕ) : Type 0 where
  pub on_board : IsOn game.size p
  pub empty : at (board_of game) p ≡ Empty
  pub free : IsFree (play (board_of game) c p) p
  pub no_ko : ¬ Forbids rule game c (play (board_of game) c p)

-- a move is: a pass always is
abbrev pub IsLegalBy : EngineRule → GameRecord → Colour → Vertex → Type 0
IsLegalBy rule game c Pass = Unit {0}
IsLegalBy rule game c (At p) = IsLegalPlayBy rule game c p

-- Where ko isn't asked, and the examiner's game is one of positional superko: a `play` that is asked is legal in that
-- game where it is legal by the engine's rule, whichever of these that is, and only there. And a move that the engine
-- may choose by its rule is legal in that game, or is one that ko refuses, which isn't judged.
pub record EachKoRuleAgrees : Type 0 where
  pub asked : (rule : EngineRule) (lessons : List Lesson) (scene_size : Option ℕ) (seed : ℕ) (unasked : Unasked)
      (asked started : ℕ) (old new : Course) (exam : Exam) (command : CheckCommand) (move : Move)
      → Walks lessons scene_size seed unasked asked started old → IsPlayOf move command
      → GoesTo old exam (Ask command) new → unasked.ko ≡ true → exam.game.rule ≡ PositionalGame
      → IsLegal exam.game move.colour move.vertex ↔ IsLegalBy rule exam.game move.colour move.vertex
  pub chosen : (rule : EngineRule) (game : GameRecord) (c : Colour) (v : Vertex) (fault : PlayFault)
      → IsLegalBy rule game c v → RefusesVertex game c v fault → fault ≡ Ko
