use Rattle.std.proofs.Common.{refl}
use Rattle.cli.specs.Requests.{outputs}
use Rattle.gtp_check_app.specs.private.Answering.{answered}
use Rattle.gtp_check_app.proofs.run.answer.Goals as goal

pub returns-then-status-eq2 : goal.returns-then-status-eq2
returns-then-status-eq2 g c =
    answered
    {between = outputs c.answer_error-status.new.output c.answer_error-status.new.errors}
    c.answer_error-status.ensures
    (λ is. record { hint = c.hint.ensures.hint; no_hint = c.hint.ensures.no_hint })
    (λ other. absurd (other c.if-status-eq2.true))

pub returns-else-status-eq2 : goal.returns-else-status-eq2
returns-else-status-eq2 g c =
    answered
    {between = outputs c.answer_error-status.new.output c.answer_error-status.new.errors}
    c.answer_error-status.ensures (λ is. absurd (c.if-status-eq2.false is)) (λ other. refl)
