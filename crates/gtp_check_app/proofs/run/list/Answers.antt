use Rattle.gtp_check_app.specs.private.Answering.{refused, shown}
use Rattle.gtp_check_app.proofs.run.list.Goals as goal

pub returns-in_default : goal.returns-in_default
returns-in_default g c = rw c.report.ensures.status (refused c.report.ensures.written)

pub returns : goal.returns
returns g c = shown (rw (c.as_slice.ensures.value, c.in-Ok.ensures) at c.show.ensures)
