use Rattle.std.proofs.Common.{◌≡◌, ℕ, ◌<◌, ◌*◌}
use Rattle.go_board.specs.Game.{IsLegal}
use Rattle.gtp_check_course.specs.Draws.{past_words}
use Rattle.gtp_check_course.specs.Questions.{drawn_point}
use Rattle.gtp_check_course.proofs.draws.legal_vertex.Given as goal

abbrev pub invariant-loop-try : goal.invariant-loop-try
invariant-loop-try l = record {
  past : l.draws ≡ past_words (2 * l._try) l.initial.draws;
  before : (k : ℕ) → k < l._try → IsLegal l.game l.colour (drawn_point l.initial.draws (2 * k) l.game.size) → ⊥;
}
