use Rattle.go_playouts.proofs.FirstWords.{seeds-decide, rollouts-score}
use Rattle.go_playouts.proofs.laws.seeds_decide.Goals as goal

pub returns-clause-playouts : goal.returns-clause-playouts
returns-clause-playouts c = seeds-decide c.words_decide.ensures

pub returns-clause-rollouts : goal.returns-clause-rollouts
returns-clause-rollouts c = rollouts-score c.words_decide.ensures
