use Rattle.go_board.proofs.KeptHashes.{hashes-follow}
use Rattle.go_board.proofs.hashes.stone_key.Goals as goal

pub returns-clause-kept : goal.returns-clause-kept
returns-clause-kept c = hashes-follow
