use Rattle.gtp_engine_app.proofs.failure.report.Goals as goal

pub returns-clause-reported : goal.returns-clause-reported
returns-clause-reported g c =
    rw (c.as_slice.ensures.value, c.error_line.ensures, c.text.ensures.text) at c.write_or_break.ensures
