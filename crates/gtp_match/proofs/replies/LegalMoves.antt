-- A legal move is played, and what is then left is what the table says.
use Rattle.std.proofs.Common.{◌≡◌, Option, Some, None, Result, Ok, Err, refl, sym, ◌∙◌, ap, subst, arith}
use Rattle.std.specs.Prelude.{IfSome, OnOk, MatchResult}
use Rattle.go_base.specs.declared.colours.Colour.{Colour}
use Rattle.go_base.specs.declared.vertices.Vertex.{Vertex}
use Rattle.go_board.specs.Game.{GameRecord, HasRoom, IsLegal, with_move}
use Rattle.go_board.specs.Refusals.{Refuses}
use Rattle.go_board.specs.declared.faults.PlayFault.{PlayFault}
use Rattle.go_board.specs.declared.faults.PlayFault.TheVariants.{Full, OffBoard, Occupied, Suicide, Ko}
use Rattle.go_board.proofs.records.Moves.{legal-or_refused}
use Rattle.gtp_match.specs.ReplyTable.{verdict_after, after_outcome}
use Rattle.gtp_match.specs.Sides.{side_of, with_side, with_engine, with_engine_of, confirmed}
use Rattle.gtp_match.specs.declared.controller.Controller.{Controller}
use Rattle.gtp_match.specs.declared.sides.EngineRun.{EngineRun}
use Rattle.gtp_match.specs.declared.sides.SideState.{SideState}
use Rattle.gtp_match.specs.declared.sides.Sides.{Sides}
use Rattle.gtp_match.specs.declared.reply_table.Outcome.{Outcome}
use Rattle.gtp_match.specs.declared.reply_table.Outcome.TheVariants.{Moves}
use Rattle.gtp_match.specs.declared.verdicts.Verdict.{Verdict}

pub is_played : (game new : GameRecord) (s : Colour) (v : Vertex) (r : Result (Unit {0}) PlayFault) → IsLegal game s v
    → HasRoom game → OnOk r (new ≡ with_move game s v)
    → MatchResult r (λ _. IsLegal game s v × HasRoom game) (Refuses game s v) → new ≡ with_move game s v
is_played game new s v (Ok done) legal room played answer = played
is_played game new s v (Err Full) legal room played answer = absurd (omega (arith, room, answer))
is_played game new s v (Err OffBoard) legal room played answer =
    absurd (legal-or_refused game s v OffBoard legal answer.1)
is_played game new s v (Err Occupied) legal room played answer =
    absurd (legal-or_refused game s v Occupied legal answer.1)
is_played game new s v (Err Suicide) legal room played answer =
    absurd (legal-or_refused game s v Suicide legal answer.1)
is_played game new s v (Err Ko) legal room played answer = absurd (legal-or_refused game s v Ko legal answer.1)

-- the controller with another game, verdict and sides
abbrev made : Controller → GameRecord → Option Verdict → Sides → Controller
made c game verdict sides = record c { game = game; verdict = verdict; sides = sides }

pub applied_move : (c : Controller) (s : Colour) (v : Vertex) (o : Outcome) (game : GameRecord) (sides : Sides)
    (verdict : Option Verdict) → o ≡ Moves v → game ≡ with_move c.game s v
    → IfSome (side_of c.sides s).up (λ engine. sides ≡ with_engine_of s (confirmed engine) c.sides)
    → verdict ≡ verdict_after c.setup game
    → IfSome (side_of c.sides s).up (λ engine.
    made c game verdict sides ≡ after_outcome c s engine o)
applied_move c s v o game sides verdict is game_is confirms verdict_is = by_up (side_of c.sides s).up confirms
  where
    by_up : (u : Option EngineRun) → IfSome u (λ engine. sides ≡ with_engine_of s (confirmed engine) c.sides)
        → IfSome u (λ engine. made c game verdict sides ≡ after_outcome c s engine o)
    by_up None h = tt
    by_up (Some engine) h =
        ap (λ w. made c game w sides) (verdict_is ∙ ap (verdict_after c.setup) game_is)
        ∙ ap (λ g. made c g (verdict_after c.setup (with_move c.game s v)) sides) game_is
        ∙ ap (made c (with_move c.game s v) (verdict_after c.setup (with_move c.game s v))) h
        ∙ ap (after_outcome c s engine) (sym is)

-- the engine of a side that was borrowed confirmed a command
pub confirms_borrowed : (sides : Sides) (s : Colour) (borrowed : SideState) (engine : EngineRun)
    → borrowed ≡ side_of sides s → borrowed.up ≡ Some engine
    → IfSome (side_of sides s).up (λ old. with_side s (with_engine (confirmed engine) borrowed) sides
    ≡ with_engine_of s (confirmed old) sides)
confirms_borrowed sides s borrowed engine is up =
    subst (λ (x : SideState). IfSome x.up (λ old. with_side s (with_engine (confirmed engine) borrowed) sides
    ≡ with_side s (with_engine (confirmed old) x) sides)) is
    (rw up refl)
