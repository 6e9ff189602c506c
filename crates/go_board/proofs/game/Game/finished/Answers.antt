use Rattle.std.proofs.Common.{arith}
use Rattle.std.proofs.lemmas.Grind.{common_steps}
use Rattle.go_board.specs.decisions.Game.{finished?}
use Rattle.go_board.proofs.of_laws.GameEnds.{decided_by}
use Rattle.go_board.proofs.game.Game.finished.Goals as goal

pub returns-in_default-clause-passes : goal.returns-in_default-clause-passes
returns-in_default-clause-passes c = grind (arith, common_steps)

pub returns-in_default-clause-decided : goal.returns-in_default-clause-decided
returns-in_default-clause-decided c = decided_by (finished? c.args.self.now) _ (returns-in_default-clause-passes c)

pub returns-then-eq-clause-passes : goal.returns-then-eq-clause-passes
returns-then-eq-clause-passes c = grind (arith, common_steps)

pub returns-then-eq-clause-decided : goal.returns-then-eq-clause-decided
returns-then-eq-clause-decided c = decided_by (finished? c.args.self.now) _ (returns-then-eq-clause-passes c)

pub returns-else-eq-clause-passes : goal.returns-else-eq-clause-passes
returns-else-eq-clause-passes c = grind (arith, common_steps)

pub returns-else-eq-clause-decided : goal.returns-else-eq-clause-decided
returns-else-eq-clause-decided c = decided_by (finished? c.args.self.now) _ (returns-else-eq-clause-passes c)
