use Rattle.gtp_engine_app.specs.Program.{broke, flushed}
use Rattle.gtp_engine_app.proofs.run.show.Goals as goal

pub returns-in-Ok : goal.returns-in-Ok
returns-in-Ok g c = flushed c.in-Ok.ensures.sent

pub returns-in-Err : goal.returns-in-Err
returns-in-Err g c = rw c.report.ensures.status (broke c.in-Err.ensures.broke c.report.ensures.reported)
