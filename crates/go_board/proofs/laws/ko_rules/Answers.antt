use Rattle.go_board.proofs.ko_rules.ReplayedBoards.{allowed-new, never-back}
use Rattle.go_board.proofs.of_laws.KoRules.{not-at-once, others-legal}
use Rattle.go_board.proofs.laws.ko_rules.Goals as goal

pub returns-clause-new : goal.returns-clause-new
returns-clause-new c = allowed-new

pub returns-clause-never : goal.returns-clause-never
returns-clause-never c = never-back

pub returns-clause-last : goal.returns-clause-last
returns-clause-last c = not-at-once

pub returns-clause-others : goal.returns-clause-others
returns-clause-others c = others-legal
