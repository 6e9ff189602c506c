use Rattle.std.proofs.Common.{ℕ, ◌<◌, ◌≤◌}
use Rattle.gtp_check_texts.specs.Board.{IsBlankRow}
use Rattle.gtp_check_texts.proofs.board.has_stone.Given as goal

-- the rows before have no stone
abbrev pub invariant-loop-row : goal.invariant-loop-row
invariant-loop-row l = (k : ℕ) → 1 ≤ k → k < l.row → IsBlankRow l.game k
