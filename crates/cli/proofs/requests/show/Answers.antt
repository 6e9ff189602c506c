use Rattle.cli.specs.Requests.{broke, flushed}
use Rattle.cli.proofs.requests.show.Goals as goal

pub returns-in-Ok : goal.returns-in-Ok
returns-in-Ok g c = flushed c.in-Ok.ensures.whole

pub returns-in-Err : goal.returns-in-Err
returns-in-Err g c = rw c.report.ensures.status (broke c.in-Err.ensures.broke c.report.ensures.written)
