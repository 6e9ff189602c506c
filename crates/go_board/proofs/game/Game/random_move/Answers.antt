use Rattle.std.proofs.Common.{ℕ, List, subst}
use Rattle.go_board.specs.Candidates.{IsChosen}
use Rattle.go_board.proofs.game.Game.random_move.Goals as goal

pub returns : goal.returns
returns c = record {
  points = c.candidates-points.result.items;
  candidates = c.candidates-points.ensures;
  chosen =
      subst (λ (xs : List ℕ). IsChosen xs c.args.word c.chosen.result) c.as_slice.ensures.value c.chosen.ensures;
}
