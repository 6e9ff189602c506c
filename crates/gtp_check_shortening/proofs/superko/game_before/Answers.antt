use Rattle.std.proofs.Common.{◌≡◌, ◌∙◌, ◌==◌, ℕ, ap, false, sym, true}
use Rattle.gtp_check_shortening.proofs.Ending.{game_at_end}
use Rattle.gtp_check_shortening.proofs.superko.game_before.Goals as goal

pub returns-then-eq : goal.returns-then-eq
returns-then-eq c =
    game_at_end c.args.rule c.args.talk.now c.in_ok-last.before.now c.in_ok-last.last.now
    c.game_after.result c.in_ok-game.game true c.in_ok-last.ensures.cases.0 c.in_ok-last.ensures.cases.1
    c.game_after.ensures c.in_ok-game.was
    (sym c.if-eq.true ∙ c.eq.ensures ∙ ap (λ (n : ℕ). n == c.in_ok-last.last.now.size) c.size.ensures.size)

pub returns-else-eq : goal.returns-else-eq
returns-else-eq c =
    game_at_end c.args.rule c.args.talk.now c.in_ok-last.before.now c.in_ok-last.last.now
    c.game_after.result c.in_ok-game.game false c.in_ok-last.ensures.cases.0 c.in_ok-last.ensures.cases.1
    c.game_after.ensures c.in_ok-game.was
    (sym c.if-eq.false ∙ c.eq.ensures ∙ ap (λ (n : ℕ). n == c.in_ok-last.last.now.size) c.size.ensures.size)
