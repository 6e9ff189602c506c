use Rattle.std.proofs.Common.{rules, subst, ◌∷◌, sym, ℕ, List}
use Rattle.std.specs.Prelude.{◌≢◌}
use Rattle.go_board.specs.Board.{at}
use Rattle.go_board.specs.private.TakenStack.{ArePoints}
use Rattle.go_board.specs.declared.board.Cell.{Cell}
use Rattle.go_board.specs.declared.board.Cell.TheVariants.{Edge, Empty}
use Rattle.go_board.proofs.ko_rules.ReplayedBoards.{points-kept}
use Rattle.go_board.proofs.board.Board.clear_taken.Goals as goal

pub loop-first-preserved : goal.loop-first-preserved
loop-first-preserved c =
    let all : ArePoints c.loop-first.self (c.in-Some.first.now ∷ c.in-Some.later.now) =
    subst (ArePoints c.loop-first.self) c.in-Some.ensures.cases.0 c.loop-first.invariant.points in
    record {
      board = search rules;
      left = search rules;
      points =
          subst (λ (b : List Cell). ArePoints b c.in-Some.later.now) (sym c.set.ensures)
          (points-kept c.loop-first.self c.from-in-Some.result Empty c.in-Some.later.now (λ e. cc)
          (subst (λ (p : ℕ). at c.loop-first.self p ≢ Edge) (sym c.from-in-Some.ensures) all.0) all.1);
    }
