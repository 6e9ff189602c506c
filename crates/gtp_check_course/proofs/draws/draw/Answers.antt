use Rattle.std.proofs.Common.{ℕ, ◌%◌, ap, sym, ◌∙◌}
use Rattle.rand_pcg.specs.Lcg.{Lcg}
use Rattle.gtp_check_course.specs.Draws.{word_at}
use Rattle.gtp_check_course.proofs.Words.{past_next, word_first}
use Rattle.gtp_check_course.proofs.draws.draw.Goals as goal

pub returns-clause-drawn : goal.returns-clause-drawn
returns-clause-drawn c =
    let word = ap (λ (both : ℕ × Lcg). both.0) c.next_word.ensures ∙ sym (word_first c.args.draws.now) in
    ap (λ n. n % c.from.result) word ∙ ap (λ n. word_at c.args.draws.now 0 % n) c.from.ensures

pub returns-clause-rest : goal.returns-clause-rest
returns-clause-rest c = ap (λ (both : ℕ × Lcg). both.1) c.next_word.ensures ∙ sym (past_next c.args.draws.now)
