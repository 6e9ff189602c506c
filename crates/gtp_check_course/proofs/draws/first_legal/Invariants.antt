use Rattle.std.proofs.Common.{ℕ, ◌<◌}
use Rattle.go_board.specs.Game.{IsLegal}
use Rattle.gtp_check_course.specs.Questions.{crossing_of}
use Rattle.gtp_check_course.proofs.draws.first_legal.Given as goal

abbrev pub invariant-loop-number : goal.invariant-loop-number
invariant-loop-number l = (k : ℕ) → k < l.number → IsLegal l.game l.colour (crossing_of k l.game.size) → ⊥
