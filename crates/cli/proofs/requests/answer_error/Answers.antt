use Rattle.cli.specs.Requests.{refused, shown}
use Rattle.cli.proofs.requests.answer_error.Goals as goal

pub returns-in-Ok : goal.returns-in-Ok
returns-in-Ok g c =
    let asked = c.in-Ok.ensures.request in
    shown asked.0 asked.1 (rw (c.as_bytes.ensures.value, asked.2) at c.show.ensures)

pub returns-in-Err : goal.returns-in-Err
returns-in-Err g c = refused c.in-Err.ensures.refused
