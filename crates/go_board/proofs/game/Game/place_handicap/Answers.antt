use Rattle.std.proofs.Common.{arith}
use Rattle.std.proofs.lemmas.Grind.{common_steps}
use Rattle.go_board.proofs.game.Game.place_handicap.Goals as goal

pub returns-clause-placed : goal.returns-clause-placed
returns-clause-placed c = grind (arith, common_steps)

pub invariant_of-self : goal.invariant_of-self
invariant_of-self c = c.self-2.invariant
