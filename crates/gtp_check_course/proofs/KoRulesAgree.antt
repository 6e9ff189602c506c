-- Where ko isn't asked, the ko rules of engines agree on what is asked.
use Rattle.std.proofs.Common.{◌≡◌, ℕ, arith, refl, sym, subst, List}
use Rattle.go_base.specs.declared.colours.Colour.{Colour}
use Rattle.go_base.specs.declared.vertices.Vertex.{Vertex}
use Rattle.go_base.specs.declared.vertices.Vertex.TheVariants.{Pass, At}
use Rattle.go_board.specs.Game.{GameRecord, IsLegal, Repeats, RepeatsAny, RepeatsBy, board_of}
use Rattle.go_board.specs.Play.{play}
use Rattle.go_board.specs.Refusals.{RefusesVertex}
use Rattle.go_board.specs.declared.board.Cell.{Cell}
use Rattle.go_board.specs.declared.faults.PlayFault.{PlayFault}
use Rattle.go_board.specs.declared.faults.PlayFault.TheVariants.{Full, OffBoard, Occupied, Suicide, Ko}
use Rattle.go_board.specs.declared.rules.KoRule.TheVariants.{Positional}
use Rattle.gtp_check_course.specs.KoRules.{EngineRule, Forbids, IsLegalBy}

-- each rule forbids no board that the game never had
repeats : (rule : EngineRule) (game : GameRecord) (c : Colour) (next : List Cell) → Forbids rule game c next
    → RepeatsAny game next
repeats EngineRule.simple game c next is = record { number = _; within = omega (arith, is.moved); same = is.same }
repeats (EngineRule.situational first) game c next is =
    record { number = is.number; within = is.within; same = is.same }
repeats EngineRule.positional game c next is = is

-- what is legal in a game of positional superko is legal by each rule
pub legal_by : (rule : EngineRule) (game : GameRecord) (c : Colour) (v : Vertex) → game.rule ≡ Positional
    → IsLegal game c v → IsLegalBy rule game c v
legal_by rule game c Pass is legal = search
legal_by rule game c (At p) is legal = record {
  on_board = legal.on_board;
  empty = legal.empty;
  free = legal.free;
  no_ko = λ forbids. legal.no_ko (subst (λ by. RepeatsBy by game (play (board_of game) c p)) (sym is)
      (repeats rule game c (play (board_of game) c p) forbids));
}

-- what is legal by a rule, and isn't refused for ko, is legal in the game
pub legal_in : (rule : EngineRule) (game : GameRecord) (c : Colour) (v : Vertex) → IsLegalBy rule game c v
    → ¬ RefusesVertex game c v Ko → IsLegal game c v
legal_in rule game c Pass legal not = search
legal_in rule game c (At p) legal not = record {
  on_board = legal.on_board;
  empty = legal.empty;
  free = legal.free;
  no_ko = λ again. not (legal.on_board, (legal.empty, (legal.free, again)));
}

-- what is legal by a rule is refused for ko alone
pub only_ko : (rule : EngineRule) (game : GameRecord) (c : Colour) (v : Vertex) (fault : PlayFault)
    → IsLegalBy rule game c v → RefusesVertex game c v fault → fault ≡ Ko
only_ko rule game c Pass fault legal refuses = absurd refuses
only_ko rule game c (At p) Full legal refuses = absurd refuses
only_ko rule game c (At p) OffBoard legal refuses = absurd (refuses legal.on_board)
only_ko rule game c (At p) Occupied legal refuses = absurd (refuses.1 legal.empty)
only_ko rule game c (At p) Suicide legal refuses = absurd (refuses.1.1 legal.free)
only_ko rule game c (At p) Ko legal refuses = refl
