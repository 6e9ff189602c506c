use Rattle.std.proofs.lemmas.Result.{err_from_is_err_and}
use Rattle.gtp_check_app.specs.Checks.{broke_at_end, in_turns, is_over, not_started, refused_at_end}
use Rattle.gtp_check_app.proofs.run.check.Goals as goal

pub returns-in_err-lines-in-Ok : goal.returns-in_err-lines-in-Ok
returns-in_err-lines-in-Ok g c =
    let exit = c.from_residual in
    let failed = err_from_is_err_and exit.result exit.ensures.1 in
    rw (failed.1, failed.2)
    (refused_at_end (rw c.new-check.ensures.first at c.in-Ok.ensures.over) c.clear.ensures c.end.ensures.closed)

pub returns-in-Some : goal.returns-in-Some
returns-in-Some g c =
    not_started (rw c.new-check.ensures.first at c.in-Ok.ensures.over)
    c.clear.ensures (rw c.starts-starts.ensures at c.in-Some.ensures.failed) c.end.ensures.closed
    c.report_unstarted.ensures

pub returns-in_err-write_text-in-Ok : goal.returns-in_err-write_text-in-Ok
returns-in_err-write_text-in-Ok g c =
    let exit = c.from_residual-in_err-write_text-in-Ok in
    let failed = err_from_is_err_and exit.result exit.ensures.1 in
    rw (failed.1, failed.2)
    (broke_at_end (rw c.new-check.ensures.first at c.in-Ok.ensures.over) c.clear.ensures c.end.ensures.closed
    c.in_ok-lines-in-Ok.ensures.text (rw c.as_slice.ensures.value at c.in_err-write_text-in-Ok.ensures.broke))

pub returns-in-Err : goal.returns-in-Err
returns-in-Err g c =
    in_turns (rw c.new-check.ensures.first at c.in-Err.ensures.stopped) c.clear.ensures c.end_at_once.ensures

pub returns-in_ok-write_text-in-Ok : goal.returns-in_ok-write_text-in-Ok
returns-in_ok-write_text-in-Ok g c =
    rw c.status-status.ensures
    (is_over (rw c.new-check.ensures.first at c.in-Ok.ensures.over) c.clear.ensures
    (rw c.starts-starts.ensures at c.in_default.ensures.none) c.end.ensures.closed
    c.in_ok-lines-in-Ok.ensures.text (rw c.as_slice.ensures.value at c.in_ok-write_text-in-Ok.ensures.whole))
