use Rattle.std.proofs.Common.{rules, refl}
use Rattle.gtp_check_app.specs.Turns.{no_more_starts, no_right_answer, not_started}
use Rattle.gtp_check_app.specs.private.Steps.{begins, is_over}
use Rattle.gtp_check_app.proofs.check.Check.start.Goals as goal

pub returns-then-self-ge-MOST_UNANSWERED_STARTS-clause-begins :
    goal.returns-then-self-ge-MOST_UNANSWERED_STARTS-clause-begins
returns-then-self-ge-MOST_UNANSWERED_STARTS-clause-begins g c = is_over (no_right_answer (search rules))

pub returns-then-not-may_start-clause-begins : goal.returns-then-not-may_start-clause-begins
returns-then-not-may_start-clause-begins g c =
    is_over (no_more_starts (search rules) (c.if-not-may_start.ensures.no refl))

pub returns-in-Ok-clause-begins : goal.returns-in-Ok-clause-begins
returns-in-Ok-clause-begins g c =
    rw (c.started.ensures, c.replace.ensures.after, c.start-in-Ok-2.ensures, c.start-in-Ok.ensures)
    (begins {engine = c.new-engine.result} c.in-Ok.process (search rules) (c.if-not-may_start.ensures.yes refl)
    (rw c.as_slice.ensures.value at c.in-Ok.ensures.asked) (rw c.replace.ensures.value at c.quit.ensures)
    c.new-engine.ensures)

pub returns-in-Err-NotStarted-clause-begins : goal.returns-in-Err-NotStarted-clause-begins
returns-in-Err-NotStarted-clause-begins g c =
    rw (c.new-unstarted.ensures, c.as_slice-in-Err-NotStarted.ensures.value)
    (is_over (not_started c.in-Err-NotStarted.reason (search rules) (c.if-not-may_start.ensures.yes refl)
    (rw (c.as_slice.ensures.value, c.in-Err-NotStarted.field-0-is) at c.in-Err-NotStarted.ensures.asked)))
