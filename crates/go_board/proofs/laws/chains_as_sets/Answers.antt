use Rattle.go_board.proofs.of_laws.ChainsAsSets.{joined-in, in-joined, away-from, untouched, captured-shut}
use Rattle.go_board.proofs.of_laws.ChainsAsSets.{shut-captured}
use Rattle.go_board.proofs.laws.chains_as_sets.Goals as goal

pub returns-clause-smallest : goal.returns-clause-smallest
returns-clause-smallest c board p q point =
    ((λ path set closed. joined-in board p q set path closed), in-joined board p q point)

pub returns-clause-touches : goal.returns-clause-touches
returns-clause-touches c board p this point = (away-from board p this point, untouched board p this)

pub returns-clause-captured : goal.returns-clause-captured
returns-clause-captured c board colour p = (captured-shut board colour p, shut-captured board colour p)
